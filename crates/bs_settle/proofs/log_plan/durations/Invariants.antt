use Rattle.std.proofs.Common.{◌≡◌}
use Rattle.bs_rows.specs.Rows.{net_on}
use Rattle.bs_settle.specs.Planned.{by_row}
use Rattle.bs_settle.proofs.log_plan.durations.Given as goal

abbrev pub invariant-loop-place : goal.invariant-loop-place
invariant-loop-place l = l.times ≡ by_row 0 (net_on l.log l.machine).duration l.place
