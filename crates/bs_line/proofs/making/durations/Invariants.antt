use Rattle.std.proofs.Common.{◌≡◌, ◌++◌, ◌∷◌, drop, map}
use Rattle.bs_rows.specs.Rows.{net_on}
use Rattle.bs_line.proofs.making.durations.Given as goal

abbrev pub invariant-loop-row : goal.invariant-loop-row
invariant-loop-row l = l.times ++ map (net_on l.log l.machine).duration (drop l.row-index l.rows) ≡ 0 ∷ map (net_on l.log l.machine).duration l.rows
