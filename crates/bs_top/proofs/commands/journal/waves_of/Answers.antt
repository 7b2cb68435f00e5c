use Rattle.std.proofs.Common.{◌≡◌, ◌∙◌, ap, subst}
use Rattle.std.specs.Prelude.{IfErr, IfOk, is_ok}
use Rattle.bs_rows.specs.Rows.{net_on}
use Rattle.bs_log.specs.declared.log.Log.{Log}
use Rattle.bs_log.specs.declared.log.MailRef.{MailRef}
use Rattle.bs_machine.specs.Machine.{machine_view}
use Rattle.bs_machine.specs.declared.fitted.Fitted.{Fitted}
use Rattle.bs_settle.specs.Field.{net_in, ticks_of}
use Rattle.bs_settle.specs.Noted.{AreNoted}
use Rattle.bs_settle.specs.Settled.{IsSpent}
use Rattle.bs_settle.specs.Timed.{AreTimes}
use Rattle.bs_settle.specs.declared.noting.Noted.{Noted}
use Rattle.bs_settle.specs.declared.settling.BudgetSpent.{BudgetSpent}
use Rattle.bs_times.specs.Machine.{machine_of}
use Rattle.bs_times.specs.Times.{IsListed}
use Rattle.bs_top.specs.Waves.{AreWavesOn, IsTooFew, most_waves}
use Rattle.bs_top.proofs.AsModel.{if_ok}
use Rattle.bs_top.proofs.Enough.{if_err, too_few, waves_on}
use Rattle.bs_top.proofs.commands.journal.waves_of.Goals as goal

pub returns-clause-noted : goal.returns-clause-noted
returns-clause-noted c =
    let f = c.in_ok-field.field in
    let e = c.in_ok-field.ensures in
    let log = c.args.log.now in
    let is : net_in f ≡ net_on log c.args.fitted.now = λ i. net_on (e.log i) (e.machine i) in
    let zero : (m : MailRef) → IsListed (net_in f) m → ticks_of f m ≡ 0 = λ m l. e.ticks.2 m (subst (λ n. IsListed n m) is l) in
    let most = c.most_waves-most.ensures.value ∙ ap (most_waves c.args.waves) e.log in
    if_ok c.settle_noting.result
    (λ (n : Noted). AreNoted (net_in f) (ticks_of f) c.most_waves-most.result n.waves (is_ok n.times))
    (λ (n : Noted). AreWavesOn c.args.waves log (machine_view c.args.fitted.now.machine) n.waves (is_ok n.times))
    (λ n held. waves_on log c.args.fitted.now c.requires.chares (net_in f) is (ticks_of f) zero c.args.waves n.waves (is_ok n.times)
    (subst (λ k. AreNoted (net_in f) (ticks_of f) k n.waves (is_ok n.times)) most held)) c.settle_noting.ensures.noted

pub returns-clause-times : goal.returns-clause-times
returns-clause-times c =
    let f = c.in_ok-field.field in
    let e = c.in_ok-field.ensures in
    let r = c.settle_noting.result in
    subst (λ (m : Fitted). IfOk r (λ (n : Noted). IfOk n.times (AreTimes c.args.log.now (machine_of m)))) e.machine
    (subst (λ (l : Log). IfOk r (λ (n : Noted). IfOk n.times (AreTimes l (machine_of f.machine.now)))) e.log c.settle_noting.ensures.times)

pub returns-clause-spent : goal.returns-clause-spent
returns-clause-spent c =
    let f = c.in_ok-field.field in
    let e = c.in_ok-field.ensures in
    let log = c.args.log.now in
    let fitted = c.args.fitted.now in
    let is : net_in f ≡ net_on log fitted = λ i. net_on (e.log i) (e.machine i) in
    let zero : (m : MailRef) → IsListed (net_in f) m → ticks_of f m ≡ 0 = λ m l. e.ticks.2 m (subst (λ n. IsListed n m) is l) in
    let most = c.most_waves-most.ensures.value ∙ ap (most_waves c.args.waves) e.log in
    let fault : BudgetSpent → Type 0 = IsSpent (net_in f) (ticks_of f) c.most_waves-most.result in
    let wanted : BudgetSpent → Type 0 = IsTooFew log (machine_view fitted.machine) (most_waves c.args.waves log) in
    if_ok c.settle_noting.result (λ (n : Noted). IfErr n.times fault) (λ (n : Noted). IfErr n.times wanted)
    (λ n held. if_err n.times fault wanted (λ s at. too_few log fitted c.requires.chares (net_in f) is (ticks_of f) zero (most_waves c.args.waves log) s
    (subst (λ k. IsSpent (net_in f) (ticks_of f) k s) most at)) held) c.settle_noting.ensures.spent
