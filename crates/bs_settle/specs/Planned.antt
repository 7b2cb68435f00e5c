-- Lists that have something for each row.
use Rattle.std.specs.Prelude.{ℕ, zero, suc, List, [], ◌∷◌, ◌++◌}

-- what stands at place 0, and behind it f 1, f 2, .. f n
abbrev pub by_row : {A : Type 0} → A → (ℕ → A) → ℕ → List A
by_row first f zero = first ∷ []
by_row first f (suc n) = by_row first f n ++ f (suc n) ∷ []
