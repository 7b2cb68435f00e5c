use Rattle.std.proofs.Common.{◌≡◌, []}
use Rattle.bs_schedule.specs.Whole.{causes_in}
use Rattle.bs_rows.specs.Rows.{net_on}
use Rattle.bs_settle.specs.Planned.{by_row}
use Rattle.bs_settle.proofs.log_plan.causes.Given as goal

abbrev pub invariant-loop-place : goal.invariant-loop-place
invariant-loop-place l = l.causes ≡ by_row [] (causes_in (net_on l.log l.machine)) l.place
