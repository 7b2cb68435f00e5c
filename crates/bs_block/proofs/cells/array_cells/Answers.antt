use Rattle.bs_block.proofs.Within.{kind_within}
use Rattle.bs_block.proofs.cells.array_cells.Goals as goal

pub returns-clause-within : goal.returns-clause-within
returns-clause-within c = kind_within c.args.accepted.now.program c.args.name _ c.in-Array.ensures.value
