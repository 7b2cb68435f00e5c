use Rattle.std.proofs.Common.{length}
use Rattle.bs_logread.proofs.SoFar.{SoFar}
use Rattle.bs_logread.proofs.reading.read_lines.Given as goal

abbrev pub invariant-loop-progress : goal.invariant-loop-progress
invariant-loop-progress l = SoFar l.bytes l.progress l.draft l.rest l.number

abbrev pub decreases-loop-progress : goal.decreases-loop-progress
decreases-loop-progress l = length l.rest
