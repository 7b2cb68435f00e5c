-- Members of a list by their places.
use Rattle.std.proofs.Common.{◌≡◌, ℕ, zero, suc, ◌<◌, List, [], ◌∷◌, inl, inr, length, get_or, refl, sym, arith}
use Rattle.bs_log.specs.Lists.{Mem}

pub mem_place : {A : Type 0} (x : A) (xs : List A) → Mem x xs → (i : ℕ) × (i < length xs) × ((d : A) → get_or xs i d ≡ x)
mem_place x [] m = absurd m
mem_place x (y ∷ ys) (inl e) = (0, omega arith, λ d. sym e)
mem_place x (y ∷ ys) (inr m) = let p = mem_place x ys m in (suc p.0, omega (arith, p.1), p.2)

pub place_mem : {A : Type 0} (xs : List A) (i : ℕ) (d : A) → i < length xs → Mem (get_or xs i d) xs
place_mem [] i d h = absurd (omega (arith, h))
place_mem (y ∷ ys) zero d h = inl refl
place_mem (y ∷ ys) (suc i) d h = inr (place_mem ys i d (omega arith))
