-- What the laws of a station name.
use Rattle.std.specs.Prelude.{ℕ, ◌<◌, List, [], ◌∷◌}
use Rattle.bs_floor.specs.declared.station.Bound.{Bound}

module _ {I : Type 0} (places : ℕ) (fits : ℕ → I → Type 0) where
  -- each of these items goes to a place that exists, and fits there
  abbrev pub AllFit : List (Bound I) → Type 0
  AllFit [] = Unit {0}
  AllFit (b ∷ bs) = (b.to < places) × fits b.to b.item × AllFit bs
