use Rattle.std.proofs.Common.{◌≤◌, ◌+◌, arith}
use Rattle.bs_semantics.specs.Layout.{all_cells}
use Rattle.bs_block.proofs.Within.{kind_within}
use Rattle.bs_history.proofs.control.scalar_cell.Goals as goal

pub returns-clause-within : goal.returns-clause-within
returns-clause-within c =
    let h : c.in-Scalar.cell + 1 ≤ all_cells c.args.accepted.now.program.vars = kind_within c.args.accepted.now.program c.args.name _ c.in-Scalar.ensures.value in omega (arith, h)
