-- Reading and writing at a place of a list.
use Rattle.std.proofs.Common.{◌≡◌, ◌<◌, ◌+◌, inl, inr, ℕ, zero, suc, List, [], ◌∷◌, Some, length, slice_get, slice_set, get_or, map, refl, sym, ap, subst, ◌∙◌, arith}
use Rattle.bs_log.specs.Lists.{Mem}
use Rattle.bs_semantics.specs.Rounds.{from_to}

pub get_set_same : {A : Type 0} (xs : List A) (i : ℕ) (v : A) → i < length xs → slice_get (slice_set xs i v) i ≡ Some v
get_set_same [] i v h = absurd (omega (arith, h))
get_set_same (x ∷ xs) zero v h = refl
get_set_same (x ∷ xs) (suc i) v h = get_set_same xs i v (omega (arith, h))

pub get_set_other : {A : Type 0} (xs : List A) (i j : ℕ) (v : A) → (i ≡ j → ⊥) → slice_get (slice_set xs i v) j ≡ slice_get xs j
get_set_other [] i j v h = refl
get_set_other (x ∷ xs) zero zero v h = absurd (h refl)
get_set_other (x ∷ xs) zero (suc j) v h = refl
get_set_other (x ∷ xs) (suc i) zero v h = refl
get_set_other (x ∷ xs) (suc i) (suc j) v h = get_set_other xs i j v (λ e. h (ap (λ n. suc n) e))

pub mem_at : {A : Type 0} (xs : List A) (i : ℕ) (d : A) → i < length xs → Mem (get_or xs i d) xs
mem_at [] i d h = absurd (omega (arith, h))
mem_at (x ∷ xs) zero d h = inl refl
mem_at (x ∷ xs) (suc i) d h = inr (mem_at xs i d (omega (arith, h)))

pub mem_get : {A : Type 0} (xs : List A) (i : ℕ) (x : A) → slice_get xs i ≡ Some x → Mem x xs
mem_get [] i x e = absurd (cc)
mem_get (y ∷ xs) zero x e = let same : y ≡ x = cc in inl (sym same)
mem_get (y ∷ xs) (suc i) x e = inr (mem_get xs i x e)

-- each member has a place
pub place_of : {A : Type 0} (xs : List A) (x : A) → Mem x xs → (i : ℕ) × (slice_get xs i ≡ Some x)
place_of [] x m = absurd m
place_of (y ∷ xs) x (inl e) = (zero, ap (λ y. Some y) (sym e))
place_of (y ∷ xs) x (inr m) = let h = place_of xs x m in (suc h.0, h.1)

-- a list with so many items, each of which is that of its number
pub numbered : {A : Type 0} (f : ℕ → A) (n k : ℕ) (xs : List A) → length xs ≡ n → ((i : ℕ) → i < n → slice_get xs i ≡ Some (f (k + i))) → xs ≡ map f (from_to k n)
numbered f zero k [] e h = refl
numbered f zero k (x ∷ xs) e h = absurd (omega (arith, e))
numbered f (suc n) k [] e h = absurd (omega (arith, e))
numbered f (suc n) k (x ∷ xs) e h =
    let first : Some x ≡ Some (f (k + 0)) = h 0 (omega arith) in
    let at : k + 0 ≡ k = omega arith in
    let same : x ≡ f k = cc (ap f at) in
    ap (λ ys. x ∷ ys) (numbered f n (k + 1) xs (omega (arith, e)) (λ i l. h (suc i) (omega (arith, l)) ∙ ap (λ j. Some (f j)) (omega arith))) ∙ ap (λ y. y ∷ map f (from_to (k + 1) n)) same

pub at_number : {A : Type 0} (f : ℕ → A) (n k i : ℕ) → i < n → slice_get (map f (from_to k n)) i ≡ Some (f (k + i))
at_number f zero k i h = absurd (omega (arith, h))
at_number f (suc n) k zero h = ap (λ j. Some (f j)) (omega arith)
at_number f (suc n) k (suc i) h = at_number f n (k + 1) i (omega (arith, h)) ∙ ap (λ j. Some (f j)) (omega arith)

pub count_numbers : {A : Type 0} (f : ℕ → A) (n k : ℕ) → length (map f (from_to k n)) ≡ n
count_numbers f zero k = refl
count_numbers f (suc n) k = ap (λ j. suc j) (count_numbers f n (k + 1))

pub chare_in : (k n c : ℕ) → c < n → Mem (k + c) (from_to k n)
chare_in k zero c h = absurd (omega (arith, h))
chare_in k (suc n) zero h = inl (omega arith)
chare_in k (suc n) (suc c) h = inr (subst (λ d. Mem d (from_to (k + 1) n)) (omega arith) (chare_in (k + 1) n c (omega (arith, h))))

pub below_of : (k n c : ℕ) → Mem c (from_to k n) → c < k + n
below_of k zero c m = absurd m
below_of k (suc n) c (inl e) = omega (arith, e)
below_of k (suc n) c (inr m) = let h = below_of (k + 1) n c m in omega (arith, h)
