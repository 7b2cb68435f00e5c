-- The least of spans.
use Rattle.std.specs.Prelude.{◌<◌, ◌≤◌, ◌+◌, ℕ, min, List, [], ◌∷◌, length}
use Rattle.bs_line.specs.Places.{row_place}
use Rattle.bs_schedule.specs.Plan.{at}

-- the least of a list, and 0 of an empty one
abbrev pub least : List ℕ → ℕ
least [] = 0
least (x ∷ []) = x
least (x ∷ y ∷ ys) = min x (least (y ∷ ys))

-- the number of the first that is the least, counted from 1
abbrev pub best_of : List ℕ → ℕ
best_of spans = row_place spans (least spans) + 1

-- there is one at this place, none is less, and each one before it is greater
pub record IsFirstLeast (spans : List ℕ) (place : ℕ) : Type 0 where
  pub there : place < length spans
  pub least_is : (k : ℕ) → k < length spans → at spans place ≤ at spans k
  pub first_is : (k : ℕ) → k < place → at spans place < at spans k
