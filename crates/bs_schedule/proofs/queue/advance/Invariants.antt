use Rattle.std.proofs.Common.{length, ◌-◌, ◌≤◌}
use Rattle.bs_schedule.specs.Queue.{AllBegun}
use Rattle.bs_schedule.proofs.queue.advance.Given as goal

abbrev pub invariant-loop-place : goal.invariant-loop-place
invariant-loop-place l = (l.from ≤ l.place) × (l.place ≤ length l.causes) × AllBegun l.causes l.from l.place l.begun

abbrev pub decreases-loop-place : goal.decreases-loop-place
decreases-loop-place l = length l.causes - l.place
