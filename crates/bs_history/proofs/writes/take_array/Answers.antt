use Rattle.bs_block.proofs.Within.{kind_within}
use Rattle.bs_history.proofs.writes.take_array.Goals as goal

pub take_cells-requires-clause-within : goal.take_cells-requires-clause-within
take_cells-requires-clause-within c = kind_within c.args.accepted.now.program c.args.name _ c.in-Array.ensures.value
