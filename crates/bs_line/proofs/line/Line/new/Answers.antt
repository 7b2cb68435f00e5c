use Rattle.std.proofs.Common.{◌≡◌, ◌∙◌, ◌==◌, length, ap, sym, subst, arith}
use Rattle.std.proofs.lemmas.Bool.{eq-eqb, eqb-true}
use Rattle.bs_log.specs.Lists.{Mem}
use Rattle.bs_times.specs.Machine.{machine_of}
use Rattle.bs_times.specs.Net.{Net}
use Rattle.bs_times.specs.Times.{IsListed}
use Rattle.bs_schedule.specs.Plan.{at}
use Rattle.bs_rows.specs.Rows.{net_on}
use Rattle.bs_line.specs.Layout.{ComesTo, GoesFrom}
use Rattle.bs_line.specs.Making.{kept, mails_of, numbers, ticks_of}
use Rattle.bs_line.specs.Places.{AreMails, mail_place}
use Rattle.bs_line.proofs.Kept.{kept_among, kept_mails, kept_tick}
use Rattle.bs_line.proofs.Ordered.{one_mails}
use Rattle.bs_line.proofs.Parts.{listed_sent}
use Rattle.bs_line.proofs.line.Line.new.Goals as goal

pub coming-requires-clause-sends : goal.coming-requires-clause-sends
coming-requires-clause-sends c m is =
    let are = c.in_ok-mails.ensures (machine_of c.args.machine.now) in
    listed_sent c.args.log.now c.args.machine.now c.requires.valid m ((are.all m).1 (subst (λ ms. Mem m ms) c.as_slice.ensures is))

pub coming-requires-clause-each : goal.coming-requires-clause-each
coming-requires-clause-each c =
    let are = c.in_ok-mails.ensures (machine_of c.args.machine.now) in
    let same = one_mails (IsListed (net_on c.args.log.now c.args.machine.now)) c.requires.estimates.mails c.in_ok-mails.mails c.requires.estimates.listed are in
    c.requires.estimates.each ∙ ap length same ∙ sym (ap length c.as_slice.ensures)

pub going-requires-clause-sends : goal.going-requires-clause-sends
going-requires-clause-sends c m is =
    let are = c.in_ok-mails.ensures (machine_of c.args.machine.now) in
    listed_sent c.args.log.now c.args.machine.now c.requires.valid m ((are.all m).1 (subst (λ ms. Mem m ms) c.as_slice-2.ensures is))

pub going-requires-clause-each : goal.going-requires-clause-each
going-requires-clause-each c =
    let are = c.in_ok-mails.ensures (machine_of c.args.machine.now) in
    let same = one_mails (IsListed (net_on c.args.log.now c.args.machine.now)) c.requires.estimates.mails c.in_ok-mails.mails c.requires.estimates.listed are in
    c.requires.estimates.each ∙ ap length same ∙ sym (ap length c.as_slice-2.ensures)

pub of_rows-requires-clause-comes : goal.of_rows-requires-clause-comes
of_rows-requires-clause-comes c =
    let net : Net = net_on c.args.log.now c.args.machine.now in
    let are = c.in_ok-mails.ensures (machine_of c.args.machine.now) in
    let same = one_mails (IsListed net) c.requires.estimates.mails c.in_ok-mails.mails c.requires.estimates.listed are in
    let comes : c.as_slice-3.result.now ≡ kept (λ m. net.goes_to m == c.args.processor) c.in_ok-mails.mails c.args.estimates.now = c.as_slice-3.ensures ∙ (rw c.as_slice.ensures at c.in_ok-comes.ensures) in
    subst (λ es. AreMails (ComesTo net c.args.processor) (mails_of es)) (sym comes)
    (kept_mails (IsListed net) (λ m. net.goes_to m ≡ c.args.processor) (λ m. net.goes_to m == c.args.processor) c.in_ok-mails.mails c.args.estimates.now are (c.requires.estimates.each ∙ ap length same) (λ m t. eqb-true (net.goes_to m) c.args.processor t) (λ m e. eq-eqb (net.goes_to m) c.args.processor e))

pub of_rows-requires-clause-goes : goal.of_rows-requires-clause-goes
of_rows-requires-clause-goes c =
    let net : Net = net_on c.args.log.now c.args.machine.now in
    let are = c.in_ok-mails.ensures (machine_of c.args.machine.now) in
    let same = one_mails (IsListed net) c.requires.estimates.mails c.in_ok-mails.mails c.requires.estimates.listed are in
    let goes : c.as_slice-4.result.now ≡ kept (λ m. net.home m.row == c.args.processor) c.in_ok-mails.mails c.args.estimates.now = c.as_slice-4.ensures ∙ (rw c.as_slice-2.ensures at c.in_ok-goes.ensures) in
    subst (λ es. AreMails (GoesFrom net c.args.processor) (mails_of es)) (sym goes)
    (kept_mails (IsListed net) (λ m. net.home m.row ≡ c.args.processor) (λ m. net.home m.row == c.args.processor) c.in_ok-mails.mails c.args.estimates.now are (c.requires.estimates.each ∙ ap length same) (λ m t. eqb-true (net.home m.row) c.args.processor t) (λ m e. eq-eqb (net.home m.row) c.args.processor e))

pub of_rows-requires-clause-early : goal.of_rows-requires-clause-early
of_rows-requires-clause-early c e is =
    let net : Net = net_on c.args.log.now c.args.machine.now in
    let comes : c.as_slice-3.result.now ≡ kept (λ m. net.goes_to m == c.args.processor) c.in_ok-mails.mails c.args.estimates.now = c.as_slice-3.ensures ∙ (rw c.as_slice.ensures at c.in_ok-comes.ensures) in
    omega (arith, c.requires.early e.tick (kept_among (λ m. net.goes_to m == c.args.processor) c.in_ok-mails.mails c.args.estimates.now e (subst (λ es. Mem e es) comes is)))

pub returns-clause-held : goal.returns-clause-held
returns-clause-held c ms listed m from =
    let net : Net = net_on c.args.log.now c.args.machine.now in
    let are = c.in_ok-mails.ensures (machine_of c.args.machine.now) in
    let same = one_mails (IsListed net) c.requires.estimates.mails c.in_ok-mails.mails c.requires.estimates.listed are in
    let here = one_mails (IsListed net) c.in_ok-mails.mails ms are listed in
    let comes : c.as_slice-3.result.now ≡ kept (λ m. net.goes_to m == c.args.processor) c.in_ok-mails.mails c.args.estimates.now = c.as_slice-3.ensures ∙ (rw c.as_slice.ensures at c.in_ok-comes.ensures) in
    ap (λ xs. at xs (mail_place c.in_ok-line.line.layout.mails m)) (c.in_ok-line.ensures.held ∙ ap ticks_of comes)
    ∙ ap (λ xs. at (ticks_of (kept (λ m. net.goes_to m == c.args.processor) c.in_ok-mails.mails c.args.estimates.now)) (mail_place xs m)) (c.in_ok-line.ensures.mails ∙ ap mails_of comes)
    ∙ kept_tick (λ m. net.goes_to m == c.args.processor) c.in_ok-mails.mails c.args.estimates.now m (c.requires.estimates.each ∙ ap length same) (eq-eqb (net.goes_to m) c.args.processor from.1)
    ∙ ap (λ xs. at (numbers c.args.estimates.now) (mail_place xs m)) here

pub returns-clause-given : goal.returns-clause-given
returns-clause-given c ms listed m from =
    let net : Net = net_on c.args.log.now c.args.machine.now in
    let are = c.in_ok-mails.ensures (machine_of c.args.machine.now) in
    let same = one_mails (IsListed net) c.requires.estimates.mails c.in_ok-mails.mails c.requires.estimates.listed are in
    let here = one_mails (IsListed net) c.in_ok-mails.mails ms are listed in
    let goes : c.as_slice-4.result.now ≡ kept (λ m. net.home m.row == c.args.processor) c.in_ok-mails.mails c.args.estimates.now = c.as_slice-4.ensures ∙ (rw c.as_slice-2.ensures at c.in_ok-goes.ensures) in
    ap (λ xs. at c.in_ok-line.line.given.items (mail_place xs m)) (c.in_ok-line.ensures.sends ∙ ap mails_of goes)
    ∙ ap (λ xs. at xs (mail_place (mails_of (kept (λ m. net.home m.row == c.args.processor) c.in_ok-mails.mails c.args.estimates.now)) m)) (c.in_ok-line.ensures.given ∙ ap ticks_of goes)
    ∙ kept_tick (λ m. net.home m.row == c.args.processor) c.in_ok-mails.mails c.args.estimates.now m (c.requires.estimates.each ∙ ap length same) (eq-eqb (net.home m.row) c.args.processor from.1)
    ∙ ap (λ xs. at (numbers c.args.estimates.now) (mail_place xs m)) here
