-- What stands at a place of a list.
use Rattle.std.proofs.Common.{◌≡◌, ℕ, zero, suc, ◌<◌, ◌≤◌, List, [], ◌∷◌, ◌++◌, length, take, get_or, Bool, true, false, true≢false, refl, sym, ap, ◌∙◌, arith}
use Rattle.std.specs.Prelude.{Option, Some, None, slice_get}
use mathlib.Core.Option.{some, some-injective, some-ne-none}
use lib.ListN.{get_elem?}

abbrev filled : {A : Type 0} → Option A → Bool
filled None = false
filled (Some k) = true

abbrev or_else : {A : Type 0} → A → Option A → A
or_else d None = d
or_else d (Some y) = y

pub Some-injective : {A : Type 0} (x y : A) → Some x ≡ Some y → x ≡ y
Some-injective x y e = ap (or_else x) e

pub none_some : {X : Type 0} {A : Type 0} (k : A) → None ≡ Some k → X
none_some k is = absurd (true≢false (ap filled (sym is)))

pub append_none : {A : Type 0} (xs : List A) → xs ++ [] ≡ xs
append_none [] = refl
append_none (x ∷ xs) = ap (λ l. x ∷ l) (append_none xs)

pub append_assoc : {A : Type 0} (xs ys zs : List A) → (xs ++ ys) ++ zs ≡ xs ++ (ys ++ zs)
append_assoc [] ys zs = refl
append_assoc (x ∷ xs) ys zs = ap (λ l. x ∷ l) (append_assoc xs ys zs)

pub here_below : {A : Type 0} (l : List A) (i : ℕ) (a : A) → get_elem? l i ≡ some a → i < length l
here_below [] i a e = absurd (some-ne-none a (sym e))
here_below (x ∷ xs) zero a e = omega arith
here_below (x ∷ xs) (suc i) a e = let h = here_below xs i a e in omega arith

pub item_below : {A : Type 0} (l : List A) (i : ℕ) (a : A) → slice_get l i ≡ Some a → i < length l
item_below [] i a e = none_some a e
item_below (x ∷ xs) zero a e = omega arith
item_below (x ∷ xs) (suc i) a e = let h = item_below xs i a e in omega arith

-- the two ways to look up an element agree
pub as_item : {A : Type 0} (l : List A) (i : ℕ) (a : A) → get_elem? l i ≡ some a → slice_get l i ≡ Some a
as_item [] i a e = absurd (some-ne-none a (sym e))
as_item (x ∷ xs) zero a e = ap Some (some-injective x a e)
as_item (x ∷ xs) (suc i) a e = as_item xs i a e

pub as_there : {A : Type 0} (l : List A) (i : ℕ) (a : A) → slice_get l i ≡ Some a → get_elem? l i ≡ some a
as_there [] i a e = none_some a e
as_there (x ∷ xs) zero a e = ap some (Some-injective x a e)
as_there (x ∷ xs) (suc i) a e = as_there xs i a e

pub item_longer : {A : Type 0} (xs ys : List A) (i : ℕ) (a : A) → slice_get xs i ≡ Some a → slice_get (xs ++ ys) i ≡ Some a
item_longer [] ys i a e = none_some a e
item_longer (x ∷ xs) ys zero a e = e
item_longer (x ∷ xs) ys (suc i) a e = item_longer xs ys i a e

pub item_last : {A : Type 0} (xs : List A) (a : A) → slice_get (xs ++ a ∷ []) (length xs) ≡ Some a
item_last [] a = refl
item_last (x ∷ xs) a = item_last xs a

pub snoc_injective : {A : Type 0} (xs : List A) (x y : A) → xs ++ x ∷ [] ≡ xs ++ y ∷ [] → x ≡ y
snoc_injective xs x y e = Some-injective x y (sym (item_last xs x) ∙ ap (λ l. slice_get l (length xs)) e ∙ item_last xs y)

pub read_at : {A : Type 0} (l : List A) (k : ℕ) (d a : A) → slice_get l k ≡ Some a → get_or l k d ≡ a
read_at [] k d a e = none_some a e
read_at (x ∷ xs) zero d a e = Some-injective x a e
read_at (x ∷ xs) (suc k) d a e = read_at xs k d a e

pub item_is : {A : Type 0} (l : List A) (k : ℕ) → k < length l → (a : A) × (slice_get l k ≡ Some a)
item_is [] k h = absurd (omega arith)
item_is (x ∷ xs) zero h = (x, refl)
item_is (x ∷ xs) (suc k) h = item_is xs k (omega arith)

pub take_front : {A : Type 0} (xs ys : List A) (n : ℕ) → n ≤ length xs → take n (xs ++ ys) ≡ take n xs
take_front xs ys zero h = refl
take_front [] ys (suc n) h = absurd (omega arith)
take_front (x ∷ xs) ys (suc n) h = ap (λ l. x ∷ l) (take_front xs ys n (omega arith))
