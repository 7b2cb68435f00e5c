use Rattle.std.proofs.Common.{◌≡◌, ◌++◌, [], ◌∷◌, drop, map}
use Rattle.bs_rows.specs.Rows.{net_on}
use Rattle.bs_line.specs.Layout.{local_causes}
use Rattle.bs_line.proofs.making.causes.Given as goal

abbrev pub invariant-loop-row : goal.invariant-loop-row
invariant-loop-row l = l.causes ++ map (local_causes (net_on l.log l.machine) l.rows) (drop l.row-index l.rows) ≡ [] ∷ map (local_causes (net_on l.log l.machine) l.rows) l.rows
