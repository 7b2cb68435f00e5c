use Rattle.std.proofs.Common.{◌<◌, length, arith, sym, ◌∙◌}
use Rattle.bs_check.specs.Known.{is_scalar}
use Rattle.bs_history.proofs.Waits.{each_at, args_end}
use Rattle.bs_history.proofs.waiting.take_values.Goals as goal

pub scalar_cell-requires : goal.scalar_cell-requires
scalar_cell-requires c =
    let a = c.loop-at-test.true in
    let m = c.min-at-end.ensures in
    let l : c.loop-at.at < length c.args.params.now = omega (arith, a, m) in
    each_at (is_scalar c.args.accepted.now.program) c.args.params.now c.loop-at.at _ l c.requires.fits

pub returns-clause-taken : goal.returns-clause-taken
returns-clause-taken c =
    let a = c.loop-at-test.false in
    let m = c.min-at-end.ensures in
    let inv = c.loop-at.invariant in
    let e = args_end c.args.accepted.now.program c.loop-at.env.cells c.args.params.now c.args.args.now c.loop-at.at (omega (arith, a, m)) in
    λ i. record { this = inv.this i; cells = (sym e ∙ inv.left) i }
