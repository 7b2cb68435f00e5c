use Rattle.std.proofs.Common.{◌≡◌, Some, subst}
use Rattle.bs_rows.specs.Rows.{net_on}
use Rattle.bs_log.specs.declared.log.Log.{Log}
use Rattle.bs_log.specs.declared.log.MailRef.{MailRef}
use Rattle.bs_machine.specs.declared.fitted.Fitted.{Fitted}
use Rattle.bs_machine.specs.Machine.{machine_view}
use Rattle.bs_settle.specs.Field.{net_in, ticks_of}
use Rattle.bs_settle.specs.Timed.{AreTimes}
use Rattle.bs_settle.specs.declared.times.Times.{Times}
use Rattle.bs_times.specs.Machine.{machine_of}
use Rattle.bs_times.specs.Times.{IsListed}
use Rattle.bs_top.specs.Waves.{within}
use Rattle.bs_top.specs.Step.{Told}
use Rattle.bs_top.specs.Stopped.{stopped_for_waves}
use Rattle.bs_top.proofs.Enough.{enough, spends}
use Rattle.bs_top.proofs.Stages.{at_stop}
use Rattle.bs_top.proofs.settling.times_from_zero.Goals as goal

pub returns-in_err-settle-clause-told : goal.returns-in_err-settle-clause-told
returns-in_err-settle-clause-told c =
    let f = c.in_ok-field.field in
    let e = c.in_ok-field.ensures in
    let is : net_in f ≡ net_on c.args.log.now c.args.fitted.now = λ i. net_on (e.log i) (e.machine i) in
    let zero : (m : MailRef) → IsListed (net_in f) m → ticks_of f m ≡ 0 = λ m l. e.ticks.2 m (subst (λ n. IsListed n m) is l) in
    let why = c.in_err-settle.field-0.0 in
    at_stop (Told (λ (t : Times). tt) (within (Some c.args.most) c.args.log.now (machine_view c.args.fitted.now.machine))) (stopped_for_waves why) c.from_residual-in_err-settle.result c.from_residual-in_err-settle.ensures.1
    (spends c.args.log.now c.args.fitted.now c.requires.chares (net_in f) is (ticks_of f) zero (λ (t : Times). tt) (Some c.args.most) why c.in_err-settle.ensures.fault)

pub returns-clause-told : goal.returns-clause-told
returns-clause-told c =
    let f = c.in_ok-field.field in
    let e = c.in_ok-field.ensures in
    let is : net_in f ≡ net_on c.args.log.now c.args.fitted.now = λ i. net_on (e.log i) (e.machine i) in
    let zero : (m : MailRef) → IsListed (net_in f) m → ticks_of f m ≡ 0 = λ m l. e.ticks.2 m (subst (λ n. IsListed n m) is l) in
    enough c.args.log.now c.args.fitted.now c.requires.chares (net_in f) is (ticks_of f) zero (Some c.args.most) c.in_ok-settle.ensures.still

pub returns-clause-times : goal.returns-clause-times
returns-clause-times c =
    let e = c.in_ok-field.ensures in
    let times = c.in_ok-settle.field-0 in
    subst (λ (m : Fitted). AreTimes c.args.log.now (machine_of m) times) e.machine (subst (λ (l : Log). AreTimes l (machine_of c.in_ok-field.field.machine.now) times) e.log c.in_ok-settle.ensures.times)
