use Rattle.std.proofs.Common.{◌≡◌, ◌++◌, drop, map}
use Rattle.bs_schedule.specs.Whole.{block_cause}
use Rattle.bs_rows.specs.Rows.{net_on}
use Rattle.bs_settle.proofs.log_plan.push_blocks.Given as goal

abbrev pub invariant-loop-cause : goal.invariant-loop-cause
invariant-loop-cause l = l.causes ++ map (block_cause (net_on l.log l.machine)) (drop l.cause-index l.cause-items) ≡ l.fn.causes ++ map (block_cause (net_on l.log l.machine)) ((net_on l.log l.machine).after l.number)
