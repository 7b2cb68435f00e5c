use Rattle.std.proofs.Common.{◌≡◌, max, map, drop}
use Rattle.bs_times.specs.Times.{greatest}
use Rattle.bs_schedule.specs.Plan.{at, comes_at, due_of}
use Rattle.bs_schedule.proofs.queue.due.Given as goal

abbrev pub invariant-loop-cause : goal.invariant-loop-cause
invariant-loop-cause l = max l.due (greatest (map (comes_at (at l.starts)) (drop l.cause-index l.cause-items))) ≡ due_of l.plan l.base (at l.starts) l.row
