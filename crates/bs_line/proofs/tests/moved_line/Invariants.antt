use Rattle.bs_line.specs.Line.{IsReady}
use Rattle.bs_line.proofs.tests.moved_line.Given as goal

abbrev pub invariant-loop-place : goal.invariant-loop-place
invariant-loop-place l = IsReady l.line
