-- The order of paths, which is that of their lists of numbers (docs/model.md).
use Rattle.std.specs.Prelude.{◌≡◌, ◌⊎◌, ℕ, List}
use Rattle.std.specs.Ordering.{nat_cmp}
use Rattle.std.specs.Cmp.Lexicographic.{slice_cmp}
use Rattle.std.specs.declared.cmp.Ordering.TheVariants.{Less}

-- the one comes before the other
abbrev pub IsBelow : List ℕ → List ℕ → Type 0
IsBelow a b = slice_cmp nat_cmp a b ≡ Less

-- or they are one
abbrev pub IsUpTo : List ℕ → List ℕ → Type 0
IsUpTo a b = (a ≡ b) ⊎ IsBelow a b
