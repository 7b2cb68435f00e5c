use Rattle.std.proofs.Common.{◌≡◌}
use Rattle.bs_floor.specs.Seats.{IsSeatOf, number_of}
use Rattle.bs_floor.proofs.race.serve_all.Given as goal

abbrev pub invariant-loop-at : goal.invariant-loop-at
invariant-loop-at l = IsSeatOf l.floor l.seat × (number_of l.seat ≡ number_of l.fn.seat)
