use Rattle.std.proofs.Common.{◌≡◌, max, map, drop}
use Rattle.bs_times.specs.Times.{greatest}
use Rattle.bs_schedule.specs.Plan.{at}
use Rattle.bs_line.proofs.bases.greatest_at.Given as goal

abbrev pub invariant-loop-place : goal.invariant-loop-place
invariant-loop-place l = max l.most (greatest (map (at l.held) (drop l.place-index l.places))) ≡ greatest (map (at l.held) l.places)
