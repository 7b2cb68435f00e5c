use Rattle.bs_line.proofs.Chosen.{KeysTo}
use Rattle.bs_line.proofs.choosing.listed.Given as goal

abbrev pub invariant-loop-row : goal.invariant-loop-row
invariant-loop-row l = KeysTo l.log l.row-index l.keys.keys
