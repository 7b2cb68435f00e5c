-- How many places of two lists differ.
use Rattle.std.proofs.Common.{◌≡◌, ◌≤◌, ◌<◌, ◌+◌, ◌⊎◌, inl, inr, ℕ, zero, suc, Bool, if◌then◌else◌, List, [], ◌∷◌, length, set, refl, ap, arith}
use Rattle.std.proofs.lemmas.Bool.{cases_eq, eq-eqb, ne_eqb}
use Rattle.bs_schedule.specs.Plan.{at}
use Rattle.bs_line.specs.Places.{differ, differing}

pub differ_same : (a b : ℕ) → a ≡ b → differ a b ≡ 0
differ_same a b e = ap (λ (t : Bool). if t then 0 else 1) (eq-eqb a b e)

pub differ_other : (a b : ℕ) → (a ≡ b → ⊥) → differ a b ≡ 1
differ_other a b n = ap (λ (t : Bool). if t then 0 else 1) (ne_eqb a b n)

pub differ_none : (a b : ℕ) → differ a b ≡ 0 → a ≡ b
differ_none a b z = go (cases_eq a b)
  where
    go : (a ≡ b) ⊎ (a ≡ b → ⊥) → a ≡ b
    go (inl e) = e
    go (inr n) = absurd (omega (arith, z, differ_other a b n))

pub differing_self : (xs : List ℕ) → differing xs xs ≡ 0
differing_self [] = refl
differing_self (x ∷ xs) = omega (arith, differ_same x x refl, differing_self xs)

pub differing_set : (xs ys : List ℕ) (k v : ℕ) → k < length xs → length ys ≡ length xs → differing (set xs k v) ys + differ (at xs k) (at ys k) ≡ differing xs ys + differ v (at ys k)
differing_set [] ys k v lt e = absurd (omega (arith, lt))
differing_set (x ∷ xs) [] k v lt e = absurd (omega (arith, e))
differing_set (x ∷ xs) (y ∷ ys) zero v lt e = omega arith
differing_set (x ∷ xs) (y ∷ ys) (suc k) v lt e = omega (arith, differing_set xs ys k v (omega (arith, lt)) (omega (arith, e)))

pub differing_one : (xs ys : List ℕ) (k : ℕ) → k < length xs → length ys ≡ length xs → differ (at xs k) (at ys k) ≤ differing xs ys
differing_one [] ys k lt e = absurd (omega (arith, lt))
differing_one (x ∷ xs) [] k lt e = absurd (omega (arith, e))
differing_one (x ∷ xs) (y ∷ ys) zero lt e = omega arith
differing_one (x ∷ xs) (y ∷ ys) (suc k) lt e = omega (arith, differing_one xs ys k (omega (arith, lt)) (omega (arith, e)))

differ_small : (a b : ℕ) → differ a b ≤ 1
differ_small a b = go (cases_eq a b)
  where
    go : (a ≡ b) ⊎ (a ≡ b → ⊥) → differ a b ≤ 1
    go (inl e) = omega (arith, differ_same a b e)
    go (inr n) = omega (arith, differ_other a b n)

pub differing_most : (xs ys : List ℕ) → differing xs ys ≤ length xs
differing_most [] ys = omega arith
differing_most (x ∷ xs) [] = omega arith
differing_most (x ∷ xs) (y ∷ ys) = omega (arith, differ_small x y, differing_most xs ys)

pub none_differ : (xs ys : List ℕ) (k : ℕ) → k < length xs → length ys ≡ length xs → differing xs ys ≡ 0 → at xs k ≡ at ys k
none_differ xs ys k lt e z = differ_none (at xs k) (at ys k) (omega (arith, differing_one xs ys k lt e, z))

pub some_differ : (xs ys : List ℕ) → length ys ≡ length xs → (differing xs ys ≡ 0 → ⊥) → (k : ℕ) × (k < length xs) × (at xs k ≡ at ys k → ⊥)
some_differ [] ys e n = absurd (n refl)
some_differ (x ∷ xs) [] e n = absurd (omega (arith, e))
some_differ (x ∷ xs) (y ∷ ys) e n = go (cases_eq x y) (some_differ xs ys (omega (arith, e)))
  where
    go : (x ≡ y) ⊎ (x ≡ y → ⊥) → ((differing xs ys ≡ 0 → ⊥) → (k : ℕ) × (k < length xs) × (at xs k ≡ at ys k → ⊥)) → (k : ℕ) × (k < suc (length xs)) × (at (x ∷ xs) k ≡ at (y ∷ ys) k → ⊥)
    go (inl same) ih = let d = ih (λ z. n (omega (arith, z, differ_same x y same))) in (suc d.0, omega (arith, d.1), d.2)
    go (inr other) ih = (0, omega arith, other)
