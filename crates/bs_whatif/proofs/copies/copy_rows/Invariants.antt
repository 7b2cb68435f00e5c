use Rattle.std.proofs.Common.{◌≡◌, ◌++◌, drop}
use Rattle.bs_whatif.proofs.copies.copy_rows.Given as goal

abbrev pub invariant-loop-row : goal.invariant-loop-row
invariant-loop-row l = l.copy ++ drop l.row-index l.rows ≡ l.rows
