use Rattle.std.proofs.Common.{arith, subst}
use Rattle.bs_rows.specs.Rows.{net_on}
use Rattle.bs_settle.specs.Timed.{numbers}
use Rattle.bs_path.specs.Chain.{start_in}
use Rattle.bs_path.specs.Checked.{IsKnown}
use Rattle.bs_path.specs.Sound.{LinkHolds}
use Rattle.bs_path.proofs.Sends.{names_send}
use Rattle.bs_path.proofs.Table.{early_at}
use Rattle.bs_path.proofs.stepping.step_holds.Goals as goal

pub overflow_add-result : goal.overflow_add-result
overflow_add-result c =
    let known = subst (IsKnown (net_on c.args.log.now c.args.machine.now) (start_in (numbers c.args.starts.now))) c.in-Some.is c.requires.before in
    let early = early_at c.args.starts.now c.in-Some.before.row c.requires.early known.0.0 (omega (arith, known.0.1, c.requires.each)) in
    omega (arith, known.1, early, c.if-row-from.true, c.from.ensures, c.takes.type_inv)

pub takes-requires-clause-link : goal.takes-requires-clause-link
takes-requires-clause-link c =
    let s = start_in (numbers c.args.starts.now) in
    let leads = subst (λ o. LinkHolds (net_on c.args.log.now c.args.machine.now) s o c.args.row) c.in-Some.is c.requires.link in
    names_send c.args.log.now c.args.machine.now c.requires.valid s c.in-Some.before.row c.args.row.row c.args.row.link c.requires.row leads
