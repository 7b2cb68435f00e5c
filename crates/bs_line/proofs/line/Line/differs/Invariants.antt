use Rattle.std.proofs.Common.{◌≡◌, ◌<◌, ℕ}
use Rattle.bs_schedule.specs.Plan.{at}
use Rattle.bs_line.proofs.line.Line.differs.Given as goal

abbrev pub invariant-loop-place : goal.invariant-loop-place
invariant-loop-place l = (k : ℕ) → k < l.place → at l.self.held.items k ≡ at l.self.used.items k
