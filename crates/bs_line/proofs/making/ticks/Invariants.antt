use Rattle.std.proofs.Common.{◌≡◌, ◌++◌, drop}
use Rattle.bs_line.specs.Making.{ticks_of}
use Rattle.bs_line.proofs.making.ticks.Given as goal

abbrev pub invariant-loop-estimate : goal.invariant-loop-estimate
invariant-loop-estimate l = l.ticks.items ++ ticks_of (drop l.estimate-index l.estimates) ≡ ticks_of l.estimates
