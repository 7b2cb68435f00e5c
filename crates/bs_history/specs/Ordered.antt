-- Where an item goes in a vector that holds a set in order, the greatest item first.
use Rattle.std.specs.Prelude.{◌≡◌, ◌≤◌, ℕ, List, ◌∷◌, ◌++◌, take, drop, length, reverse, Option, Some, None}
use Rattle.std.specs.declared.cmp.Ordering.{Ordering}
use Rattle.bs_semantics.specs.Run.{put}

-- with the item at this place the vector holds the set with the item, or without one it holds the item already
abbrev pub IsPlace : {A : Type 0} → (A → A → Ordering) → A → List A → Option ℕ → Type 0
IsPlace cmp x items (Some at) = (at ≤ length items) × (put cmp x (reverse items) ≡ reverse (take at items ++ x ∷ drop at items))
IsPlace cmp x items None = put cmp x (reverse items) ≡ reverse items
