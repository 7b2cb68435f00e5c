-- What stands at the places of a list with one item more.
use Rattle.std.proofs.Common.{◌≡◌, ◌≤◌, ◌<◌, ◌++◌, ℕ, zero, suc, List, [], ◌∷◌, Some, None, length, refl, ap, ◌∙◌, arith}
use Rattle.std.specs.List.{slice_get}
use Rattle.bs_path.specs.declared.links.ChainRow.{ChainRow}
use Rattle.bs_path.specs.Sound.{before}

pub get_front : {A : Type 0} (xs : List A) (x : A) (k : ℕ) → k < length xs → slice_get (xs ++ x ∷ []) k ≡ slice_get xs k
get_front [] x k lt = absurd (omega (arith, lt))
get_front (y ∷ ys) x zero lt = refl
get_front (y ∷ ys) x (suc k) lt = get_front ys x k (omega (arith, lt))

pub get_last : {A : Type 0} (xs : List A) (x : A) → slice_get (xs ++ x ∷ []) (length xs) ≡ Some x
get_last [] x = refl
get_last (y ∷ ys) x = get_last ys x

pub get_past : {A : Type 0} (xs : List A) → slice_get xs (length xs) ≡ None
get_past [] = refl
get_past (y ∷ ys) = get_past ys

pub before_front : (xs : List ChainRow) (x : ChainRow) (k : ℕ) → k ≤ length xs → before (xs ++ x ∷ []) k ≡ before xs k
before_front xs x zero le = refl
before_front xs x (suc k) le = get_front xs x k (omega (arith, le))

pub length_more : {A : Type 0} (xs : List A) (x : A) → length (xs ++ x ∷ []) ≡ suc (length xs)
length_more [] x = refl
length_more (y ∷ ys) x = ap suc (length_more ys x)

pub before_last : (xs : List ChainRow) (x : ChainRow) → before (xs ++ x ∷ []) (length (xs ++ x ∷ [])) ≡ Some x
before_last xs x = ap (before (xs ++ x ∷ [])) (length_more xs x) ∙ get_last xs x
