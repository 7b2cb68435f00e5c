use Rattle.std.proofs.Common.{◌≡◌, ◌++◌, drop, map}
use Rattle.bs_schedule.specs.Plan.{at}
use Rattle.bs_line.specs.Line.{arrive}
use Rattle.bs_line.proofs.corrections.arrivals.Given as goal

abbrev pub invariant-loop-out : goal.invariant-loop-out
invariant-loop-out l = l.ticks.items ++ map (arrive (at l.starts)) (drop l.out-index l.outs) ≡ map (arrive (at l.starts)) l.outs
