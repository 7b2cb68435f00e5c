use Rattle.std.proofs.Common.{◌≡◌}
use Rattle.bs_floor.specs.Seats.{IsSeatOf, number_of}
use Rattle.bs_floor.proofs.race.passes.Given as goal

abbrev pub invariant-loop : goal.invariant-loop
invariant-loop l = IsSeatOf l.floor l.seat × (number_of l.seat ≡ number_of l.fn.seat)
