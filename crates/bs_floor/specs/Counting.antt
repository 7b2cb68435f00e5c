-- How often something stands in a list, and sums over the views of all seats.
use Rattle.std.specs.Prelude.{ℕ, ◌+◌, List, [], ◌∷◌, Bool, true, false, nat_eq, nat_lt, ◌&&◌}
use Rattle.bs_floor.specs.declared.view.Entry.{Entry}

abbrev pub bit : Bool → ℕ
bit true = 1
bit false = 0

-- 1 where p is below n, and else 0
abbrev pub below : ℕ → ℕ → ℕ
below p n = bit (nat_lt p n)

-- how often the number n stands in a list
abbrev pub times : ℕ → List ℕ → ℕ
times n [] = 0
times n (x ∷ xs) = bit (nat_eq x n) + times n xs

abbrev pub total : {V : Type 0} → (V → ℕ) → List V → ℕ
total f [] = 0
total f (v ∷ vs) = f v + total f vs

module _ {X : Type 0} where
  abbrev pub entry : ℕ → ℕ → X → Entry X
  entry k n x = record { station = k; number = n; content = x }

  -- 1 where the entry stands at the number p of the station k, and else 0
  abbrev pub is_at : ℕ → ℕ → Entry X → ℕ
  is_at k p e = bit (nat_eq e.station k && nat_eq e.number p)

  -- how many of these stand at the number p of the station k
  abbrev pub count : ℕ → ℕ → List (Entry X) → ℕ
  count k p [] = 0
  count k p (e ∷ es) = is_at k p e + count k p es

  abbrev pub Each : (X → Type 0) → List X → Type 0
  Each P [] = Unit {0}
  Each P (x ∷ xs) = P x × Each P xs
