-- What stands at the places of a list, before and after one of its items is replaced.
use Rattle.std.proofs.Common.{◌≡◌, ◌≢◌, ◌≤◌, ◌<◌, ◌+◌, ◌++◌, ◌⊎◌, inl, inr, ℕ, zero, suc, List, [], ◌∷◌, Option, Some, None, length, get_or, map, set, refl, sym, ap, subst, ◌∙◌, arith}
use Rattle.std.specs.List.{slice_get}
use Rattle.std.specs.Option.{option_map}
use Rattle.std.proofs.Math.Seq.{map-set_same}
use Rattle.std.proofs.lemmas.Bool.{cases_eq}
use Rattle.std.proofs.lemmas.List.{get_or-set_same, length-set, set-get_or}
use Rattle.bs_times.proofs.Members.{cases_le}
use Rattle.std.proofs.lemmas.Option.{get_or_from_slice_get, slice_get-get_or, slice_get-map}

pub picked : {A B : Type 0} (f : A → B) (xs : List A) (k : ℕ) (x : A) (d : B) → slice_get xs k ≡ Some x → get_or (map f xs) k d ≡ f x
picked f xs k x d e = get_or_from_slice_get (map f xs) k (f x) d (slice_get-map f xs k ∙ ap (option_map f) e)

pub some_item : {A : Type 0} (xs : List A) (k : ℕ) → k < length xs → (x : A) × (slice_get xs k ≡ Some x)
some_item [] k lt = absurd (omega (arith, lt))
some_item (x ∷ xs) zero lt = (x, refl)
some_item (x ∷ xs) (suc k) lt = some_item xs k (omega (arith, lt))

abbrev item_or : {A : Type 0} → A → Option A → A
item_or d None = d
item_or d (Some x) = x

pub one_item : {A : Type 0} (o : Option A) (x y : A) → o ≡ Some x → o ≡ Some y → x ≡ y
one_item o x y e f = ap (item_or x) (sym e ∙ f)

pub item_here : {A : Type 0} (xs : List A) (k : ℕ) (y : A) → k < length xs → slice_get (set xs k y) k ≡ Some y
item_here xs k y lt = slice_get-get_or (set xs k y) k y (omega (arith, lt, length-set xs k y)) ∙ ap Some (get_or-set_same xs k y y lt)

pub item_other : {A : Type 0} (xs : List A) (k j : ℕ) (y : A) → j ≢ k → slice_get (set xs k y) j ≡ slice_get xs j
item_other [] k j y n = refl
item_other (x ∷ xs) zero zero y n = absurd (n refl)
item_other (x ∷ xs) zero (suc j) y n = refl
item_other (x ∷ xs) (suc k) zero y n = refl
item_other (x ∷ xs) (suc k) (suc j) y n = item_other xs k j y (λ e. n (ap suc e))

-- a column stays that doesn't tell the new item from the old one.
pub column_kept : {A B : Type 0} (f : A → B) (xs : List A) (k : ℕ) (x y : A) → slice_get xs k ≡ Some x → f y ≡ f x → map f (set xs k y) ≡ map f xs
column_kept f xs k x y e h = map-set_same f xs k y x (h ∙ sym (ap f (get_or_from_slice_get xs k x x e)))

-- what holds of the new item and of all others holds of all.
pub each_after : {A : Type 0} (P : ℕ → A → Type 0) (xs : List A) (k : ℕ) (y : A) → P k y → ((j : ℕ) (x : A) → j ≢ k → slice_get xs j ≡ Some x → P j x) → k < length xs → (j : ℕ) (x : A) → slice_get (set xs k y) j ≡ Some x → P j x
each_after {A} P xs k y new others lt j x is = go (cases_eq j k)
  where
    go : (j ≡ k) ⊎ (j ≡ k → ⊥) → P j x
    go (inl e) =
        let q : y ≡ x = one_item (slice_get (set xs k y) j) y x (ap (slice_get (set xs k y)) e ∙ item_here xs k y lt) is in
        subst (P j) q (subst (λ i. P i y) (sym e) new)
    go (inr n) = others j x n (sym (item_other xs k j y n) ∙ is)

pub set_same : {A : Type 0} (xs : List A) (k : ℕ) (x : A) → slice_get xs k ≡ Some x → set xs k x ≡ xs
set_same xs k x e = subst (λ y. set xs k y ≡ xs) (get_or_from_slice_get xs k x x e) (set-get_or xs k x)

-- ---- a list with one item more

pub item_left : {A : Type 0} (xs ys : List A) (k : ℕ) → k < length xs → slice_get (xs ++ ys) k ≡ slice_get xs k
item_left [] ys k lt = absurd (omega (arith, lt))
item_left (x ∷ xs) ys zero lt = refl
item_left (x ∷ xs) ys (suc k) lt = item_left xs ys k (omega (arith, lt))

pub item_last : {A : Type 0} (xs : List A) (y : A) → slice_get (xs ++ y ∷ []) (length xs) ≡ Some y
item_last [] y = refl
item_last (x ∷ xs) y = item_last xs y

pub last_place : (n q : ℕ) → q < n + 1 → (q < n) ⊎ (q ≡ n)
last_place n q lt = go (cases_le n q)
  where
    go : (n ≤ q) ⊎ (q < n) → (q < n) ⊎ (q ≡ n)
    go (inl le) = inr (omega (arith, le, lt))
    go (inr h) = inl h
