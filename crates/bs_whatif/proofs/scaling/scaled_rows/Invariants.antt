use Rattle.std.proofs.Common.{◌≡◌, ◌++◌, drop, map}
use Rattle.bs_whatif.specs.Rescaled.{rescaled_row}
use Rattle.bs_whatif.proofs.scaling.scaled_rows.Given as goal

abbrev pub invariant-loop-row : goal.invariant-loop-row
invariant-loop-row l = l.scaled ++ map (rescaled_row l.stmt l.num l.den) (drop l.row-index l.rows) ≡ map (rescaled_row l.stmt l.num l.den) l.rows
