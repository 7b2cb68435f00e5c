-- A station that counts down, with which the tests try a floor: (place, number of places, sum of the items served).
use Rattle.std.specs.Prelude.{ℕ, zero, suc, ◌+◌, ◌%◌, ◌^◌, ◌<◌, ◌≤◌, List, [], ◌∷◌}
use Rattle.bs_floor.specs.declared.station.Bound.{Bound}

abbrev pub Countdown : Type 0
Countdown = ℕ × ℕ × ℕ

abbrev pub next_sum : Countdown → ℕ → Countdown
next_sum s x = (s.0, s.1, (s.2 + x) % 2 ^ 64)

-- an item above 0 goes on to the next place, less 1
abbrev pub sends_of : Countdown → ℕ → List (Bound ℕ)
sends_of s zero = []
sends_of s (suc n) = record { to = (s.0 + 1) % s.1; item = n } ∷ []

-- an item fits that comes down to 0 before it has been round twice
abbrev pub IsFew : ℕ → ℕ → ℕ → Type 0
IsFew places place x = x ≤ places + places

abbrev pub IsSum : ℕ → ℕ → Countdown → Type 0
IsSum places place s = (place < places) × (s.2 < 2 ^ 64)
