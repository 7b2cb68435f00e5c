-- Sums over the views, and how often a number stands in a list.
use Rattle.std.proofs.Common.{◌≡◌, ◌≢◌, ℕ, zero, suc, ◌+◌, ◌<◌, ◌≤◌, List, [], ◌∷◌, ◌++◌, set, eqb, Bool, ◌&&◌, refl, sym, ap, arith, eq-eqb, ne_eqb}
use Rattle.std.proofs.lemmas.Bool.{lt-ltb, le-ltb}
use mathlib.Core.Option.{some, some-injective, some-ne-none}
use mathlib.Core.Logic.{dite}
use native.Mathlib.Decide.{dec_le, ℕ_discrete}
use lib.ListN.{get_elem?}
use Rattle.bs_floor.specs.declared.view.Entry.{Entry}
use Rattle.bs_floor.specs.Counting.{bit, below, times, total, entry, is_at, count, Each}

module _ {V : Type 0} (f : V → ℕ) where
  pub total_set : (vs : List V) (i : ℕ) (v w : V) → get_elem? vs i ≡ some v → total f (set vs i w) + f v ≡ total f vs + f w
  total_set [] i v w e = absurd (some-ne-none v (sym e))
  total_set (x ∷ xs) zero v w e = let s : f x ≡ f v = ap f (some-injective x v e) in omega arith
  total_set (x ∷ xs) (suc i) v w e = let s = total_set xs i v w e in omega arith

  pub total_snoc : (vs : List V) (w : V) → total f (vs ++ w ∷ []) ≡ total f vs + f w
  total_snoc [] w = omega arith
  total_snoc (x ∷ xs) w = let s = total_snoc xs w in omega arith

  pub total_has : (vs : List V) (i : ℕ) (v : V) → get_elem? vs i ≡ some v → f v ≤ total f vs
  total_has [] i v e = absurd (some-ne-none v (sym e))
  total_has (x ∷ xs) zero v e = let s : f x ≡ f v = ap f (some-injective x v e) in omega arith
  total_has (x ∷ xs) (suc i) v e = let s = total_has xs i v e in omega arith

  pub total_two : (vs : List V) (i j : ℕ) (v u : V) → i ≢ j → get_elem? vs i ≡ some v → get_elem? vs j ≡ some u → f v + f u ≤ total f vs
  total_two [] i j v u apart e d = absurd (some-ne-none v (sym e))
  total_two (x ∷ xs) zero zero v u apart e d = absurd (apart refl)
  total_two (x ∷ xs) zero (suc j) v u apart e d = let s : f x ≡ f v = ap f (some-injective x v e) in let r = total_has xs j u d in omega arith
  total_two (x ∷ xs) (suc i) zero v u apart e d = let s : f x ≡ f u = ap f (some-injective x u d) in let r = total_has xs i v e in omega arith
  total_two (x ∷ xs) (suc i) (suc j) v u apart e d = let r = total_two xs i j v u (λ same. apart (ap suc same)) e d in omega arith

  pub total_zero : (vs : List V) → ((j : ℕ) (u : V) → get_elem? vs j ≡ some u → f u ≡ 0) → total f vs ≡ 0
  total_zero [] none_of = refl
  total_zero (x ∷ xs) none_of = let s = none_of 0 x refl in let r = total_zero xs (λ j u e. none_of (suc j) u e) in omega arith

  -- where all but one are 0, the sum is that one's
  pub total_alone : (vs : List V) (i : ℕ) (v : V) → get_elem? vs i ≡ some v → ((j : ℕ) (u : V) → j ≢ i → get_elem? vs j ≡ some u → f u ≡ 0) → total f vs ≡ f v
  total_alone [] i v e others = absurd (some-ne-none v (sym e))
  total_alone (x ∷ xs) zero v e others = let s : f x ≡ f v = ap f (some-injective x v e) in let r = total_zero xs (λ j u d. others (suc j) u (λ bad. omega arith) d) in omega arith
  total_alone (x ∷ xs) (suc i) v e others = let s = others 0 x (λ bad. omega arith) refl in let r = total_alone xs i v e (λ j u apart d. others (suc j) u (λ same. apart (let k : j ≡ i = omega arith in k)) d) in omega arith

pub below_yes : (p n : ℕ) → p < n → below p n ≡ 1
below_yes p n h = ap bit (lt-ltb p n h)

pub below_no : (p n : ℕ) → n ≤ p → below p n ≡ 0
below_no p n h = ap bit (le-ltb p n h)

pub bit_same : (n p : ℕ) → n ≡ p → bit (eqb n p) ≡ 1
bit_same n p e = ap bit (eq-eqb n p e)

pub bit_other : (n p : ℕ) → n ≢ p → bit (eqb n p) ≡ 0
bit_other n p ne = ap bit (ne_eqb n p ne)

pub below_more : (p n : ℕ) → below p (n + 1) ≡ below p n + bit (eqb n p)
below_more p n = dite (ℕ_discrete n p)
    (λ same. let a = below_yes p (n + 1) (omega arith) in let b = below_no p n (omega arith) in let c = bit_same n p same in omega arith)
    (λ other. let c = bit_other n p other in dite (dec_le (suc p) n)
    (λ low. let a = below_yes p (n + 1) (omega arith) in let b = below_yes p n (omega arith) in omega arith)
    (λ high. let a = below_no p (n + 1) (let ne : n ≢ p = other in omega arith) in let b = below_no p n (omega arith) in omega arith))

pub times_append : (n : ℕ) (xs ys : List ℕ) → times n (xs ++ ys) ≡ times n xs + times n ys
times_append n [] ys = omega arith
times_append n (x ∷ xs) ys = let s = times_append n xs ys in omega arith

module _ {X : Type 0} where
  pub count_append : (k p : ℕ) (xs ys : List (Entry X)) → count k p (xs ++ ys) ≡ count k p xs + count k p ys
  count_append k p [] ys = omega arith
  count_append k p (x ∷ xs) ys = let s = count_append k p xs ys in omega arith

  pub at_other : (k p i n : ℕ) (x : X) → i ≢ k → is_at k p (entry i n x) ≡ 0
  at_other k p i n x ne = ap (λ (b : Bool). bit (b && eqb n p)) (ne_eqb i k ne)

  pub at_same : (k p i n : ℕ) (x : X) → i ≡ k → is_at k p (entry i n x) ≡ bit (eqb n p)
  at_same k p i n x e = ap (λ (b : Bool). bit (b && eqb n p)) (eq-eqb i k e)

  pub Each-map : {P Q : X → Type 0} (xs : List X) → ((x : X) → P x → Q x) → Each P xs → Each Q xs
  Each-map [] f h = tt
  Each-map (x ∷ xs) f h = (f x h.0, Each-map xs f h.1)

  pub Each-append : (P : X → Type 0) (xs ys : List X) → Each P xs → Each P ys → Each P (xs ++ ys)
  Each-append P [] ys h k = k
  Each-append P (x ∷ xs) ys h k = (h.0, Each-append P xs ys h.1 k)
