use Rattle.std.proofs.Common.{◌≤◌}
use Rattle.bs_times.specs.Times.{IsOn}
use Rattle.bs_rows.specs.Rows.{net_on}
use Rattle.bs_line.specs.Places.{AreThose}
use Rattle.bs_line.proofs.choosing.rows_on.Given as goal

abbrev pub invariant-loop-place : goal.invariant-loop-place
invariant-loop-place l = AreThose (λ i. IsOn (net_on l.log l.machine) l.processor i × (i ≤ l.place)) l.rows
