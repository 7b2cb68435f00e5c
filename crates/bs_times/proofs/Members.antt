-- Members of lists that are joined or mapped.
use Rattle.std.proofs.Common.{◌≡◌, ◌≤◌, ◌<◌, ◌⊎◌, inl, inr, ℕ, List, [], ◌∷◌, ◌++◌, refl, ap, map, arith}
use Rattle.std.proofs.lemmas.Bool.{cases_eq}
use Rattle.bs_log.specs.Lists.{Mem}

pub cases_le : (m n : ℕ) → (m ≤ n) ⊎ (n < m)
cases_le m n = grind arith

pub mem_left : {A : Type 0} (x : A) (xs ys : List A) → Mem x xs → Mem x (xs ++ ys)
mem_left x [] ys m = absurd m
mem_left x (y ∷ xs) ys (inl e) = inl e
mem_left x (y ∷ xs) ys (inr m) = inr (mem_left x xs ys m)

pub mem_right : {A : Type 0} (x : A) (xs ys : List A) → Mem x ys → Mem x (xs ++ ys)
mem_right x [] ys m = m
mem_right x (y ∷ xs) ys m = inr (mem_right x xs ys m)

pub mem_cases : {A : Type 0} (x : A) (xs ys : List A) → Mem x (xs ++ ys) → Mem x xs ⊎ Mem x ys
mem_cases x [] ys m = inr m
mem_cases x (y ∷ xs) ys (inl e) = inl (inl e)
mem_cases x (y ∷ xs) ys (inr m) = go (mem_cases x xs ys m)
  where
    go : Mem x xs ⊎ Mem x ys → Mem x (y ∷ xs) ⊎ Mem x ys
    go (inl n) = inl (inr n)
    go (inr n) = inr n

pub mem_map : {A B : Type 0} (f : A → B) (x : A) (xs : List A) → Mem x xs → Mem (f x) (map f xs)
mem_map f x [] m = absurd m
mem_map f x (y ∷ ys) (inl e) = inl (ap f e)
mem_map f x (y ∷ ys) (inr m) = inr (mem_map f x ys m)

pub map_mem : {A B : Type 0} (f : A → B) (y : B) (xs : List A) → Mem y (map f xs) → (x : A) × Mem x xs × (y ≡ f x)
map_mem f y [] m = absurd m
map_mem f y (x ∷ xs) (inl e) = (x, inl refl, e)
map_mem f y (x ∷ xs) (inr m) = let d = map_mem f y xs m in (d.0, inr d.1, d.2)

pub mem_or_not : (p : ℕ) (xs : List ℕ) → Mem p xs ⊎ (Mem p xs → ⊥)
mem_or_not p [] = inr (λ m. m)
mem_or_not p (x ∷ xs) = go (cases_eq p x) (mem_or_not p xs)
  where
    go : (p ≡ x) ⊎ (p ≡ x → ⊥) → Mem p xs ⊎ (Mem p xs → ⊥) → Mem p (x ∷ xs) ⊎ (Mem p (x ∷ xs) → ⊥)
    go (inl e) m = inl (inl e)
    go (inr n) (inl m) = inl (inr m)
    go (inr n) (inr k) = inr (λ m. not m)
      where
        not : Mem p (x ∷ xs) → ⊥
        not (inl e) = n e
        not (inr m) = k m
