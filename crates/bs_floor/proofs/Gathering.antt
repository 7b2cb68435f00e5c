-- Lists over the seats, and over the cells that are taken out.
use Rattle.std.proofs.Common.{◌≡◌, ℕ, zero, suc, ◌+◌, ◌<◌, ◌≤◌, get_or, List, [], ◌∷◌, ◌++◌, length, map, take, refl, sym, ap, ◌∙◌, subst, arith}
use Rattle.std.specs.Prelude.{All, Some, slice_get}
use mathlib.Core.Option.{some, some-injective, some-ne-none}
use lib.ListN.{get_elem?}
use Rattle.bs_floor.specs.Counting.{times}
use Rattle.bs_floor.specs.Closing.{joined_lists}
use Rattle.bs_floor.proofs.Lookups.{Some-injective, none_some, append_none, append_assoc}
use Rattle.bs_floor.proofs.Sums.{bit_same}

pub all_split : {A : Type 0} (P : A → Type 0) (l : List A) (x : A) (xs : List A) → l ≡ x ∷ xs → All P l → P x × All P xs
all_split P l x xs e h = let g = subst (All P) e h in (g 0 x (omega arith), λ k d low. g (suc k) d (omega arith))

pub map_snoc : {A B : Type 0} (f : A → B) (xs : List A) (x : A) → map f (xs ++ x ∷ []) ≡ map f xs ++ f x ∷ []
map_snoc f [] x = refl
map_snoc f (y ∷ ys) x = ap (λ l. f y ∷ l) (map_snoc f ys x)

module _ {A B : Type 0} (f : A → List B) where
  joined_snoc : (xs : List A) (x : A) → joined_lists (map f (xs ++ x ∷ [])) ≡ joined_lists (map f xs) ++ f x
  joined_snoc [] x = append_none (f x)
  joined_snoc (y ∷ ys) x = ap (λ l. f y ++ l) (joined_snoc ys x) ∙ sym (append_assoc (f y) (joined_lists (map f ys)) (f x))

  pub joined_more : (first before after : List B) (xs : List A) (x : A) (w : List B) → before ≡ first ++ joined_lists (map f xs) → after ≡ before ++ w → w ≡ f x → after ≡ first ++ joined_lists (map f (xs ++ x ∷ []))
  joined_more first before after xs x w e is same = is ∙ (λ i. e i ++ same i) ∙ append_assoc first (joined_lists (map f xs)) (f x) ∙ ap (λ l. first ++ l) (sym (joined_snoc xs x))

pub mapped_more : {A B : Type 0} (f : A → B) (first before after : List B) (xs : List A) (x : A) (w : List B) → before ≡ first ++ map f xs → after ≡ before ++ w → w ≡ f x ∷ [] → after ≡ first ++ map f (xs ++ x ∷ [])
mapped_more f first before after xs x w e is same = is ∙ (λ i. e i ++ same i) ∙ append_assoc first (map f xs) (f x ∷ []) ∙ ap (λ l. first ++ l) (sym (map_snoc f xs x))

-- a fact of each element and its number, the first of which is 1, goes on to one more element
pub numbered_more : {A : Type 0} (P : ℕ → A → Type 0) (xs : List A) (x : A) → ((k : ℕ) (a : A) → slice_get xs k ≡ Some a → P (suc k) a) → P (suc (length xs)) x → (k : ℕ) (a : A) → slice_get (xs ++ x ∷ []) k ≡ Some a → P (suc k) a
numbered_more P [] x all last zero a e = subst (P 1) (Some-injective x a e) last
numbered_more P [] x all last (suc k) a e = none_some a e
numbered_more P (y ∷ ys) x all last zero a e = all zero a e
numbered_more P (y ∷ ys) x all last (suc k) a e = numbered_more (λ n. P (suc n)) ys x (λ j b is. all (suc j) b is) last k a e

-- the same of all elements, with one in front of them
pub numbered_from : {A : Type 0} (P : ℕ → A → Type 0) (xs : List A) (x : A) → P 0 x → ((k : ℕ) (a : A) → slice_get xs k ≡ Some a → P (suc k) a) → (k : ℕ) (a : A) → slice_get (x ∷ xs) k ≡ Some a → P k a
numbered_from P xs x first all zero a e = subst (P 0) (Some-injective x a e) first
numbered_from P xs x first all (suc k) a e = all k a e

pub take_more_at : {A : Type 0} (l : List A) (i : ℕ) (a : A) → get_elem? l i ≡ some a → take i l ++ a ∷ [] ≡ take (i + 1) l
take_more_at l i a e = go l i a e ∙ ap (λ (z : ℕ). take z l) (let s : suc i ≡ i + 1 = omega arith in s)
  where
    go : {A : Type 0} (l : List A) (i : ℕ) (a : A) → get_elem? l i ≡ some a → take i l ++ a ∷ [] ≡ take (suc i) l
    go [] i a e = absurd (some-ne-none a (sym e))
    go (x ∷ xs) zero a e = ap (λ y. y ∷ []) (sym (some-injective x a e))
    go (x ∷ xs) (suc i) a e = ap (λ l. x ∷ l) (go xs i a e)

-- a number that some element has stands among the numbers of all
pub numbered_somewhere : {A : Type 0} (f : A → ℕ) (xs : List A) (n k : ℕ) (x : A) → k < length xs → get_or xs k x ≡ x → f x ≡ n → 1 ≤ times n (map f xs)
numbered_somewhere f [] n k x low at is = absurd (omega arith)
numbered_somewhere f (y ∷ ys) n zero x low at is = let here = bit_same (f y) n (ap f at ∙ is) in omega arith
numbered_somewhere f (y ∷ ys) n (suc k) x low at is = let there = numbered_somewhere f ys n k x (omega arith) at is in omega arith
