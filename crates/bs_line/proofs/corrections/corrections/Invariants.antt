use Rattle.std.proofs.Common.{◌≡◌, ◌++◌, drop}
use Rattle.bs_line.specs.Line.{corrections_of}
use Rattle.bs_line.proofs.corrections.corrections.Given as goal

abbrev pub invariant-loop-k : goal.invariant-loop-k
invariant-loop-k l = l.list ++ corrections_of (drop l.k l.outs) (drop l.k l.given) (drop l.k l.ticks) ≡ corrections_of l.outs l.given l.ticks
