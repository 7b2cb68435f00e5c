use Rattle.std.proofs.Common.{◌≡◌}
use Rattle.bs_floor.specs.Seats.{IsSeatOf, number_of}
use Rattle.bs_floor.proofs.race.post_all.Given as goal

abbrev pub invariant-loop-to : goal.invariant-loop-to
invariant-loop-to l =
    (goal.iterator-loop-to).can_next l.to-iterator ×
    (goal.iterator-loop-to).is_finite l.to-iterator × IsSeatOf l.floor l.seat × (number_of l.seat ≡ number_of l.fn.seat)
