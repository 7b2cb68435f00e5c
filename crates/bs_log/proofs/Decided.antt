-- Tests over lists, and what they decide.
use Rattle.std.proofs.Common.{◌≡◌, ◌≤◌, ◌⊎◌, inl, inr, ℕ, ◌+◌, ◌==◌, Bool, true, false, cond, List, [], ◌∷◌, refl, sym, ap, subst, ◌∙◌, arith, nat_le, count_by}
use Rattle.std.specs.Bool.{Decides}
use Rattle.std.specs.List.{list_all, list_any}
use Rattle.std.proofs.lemmas.Bool.{false≢true}
use Rattle.std.proofs.lemmas.Bool.Decides.{Decides-and, Decides-or, Decides-like, Decides-at, nat_tests}
use Rattle.std.proofs.lemmas.List.Sums.{sum_by-cons}
use Rattle.std.proofs.lemmas.List.Folds.{sum_by-zero}
use Rattle.bs_log.specs.Lists.{Mem, Apart, Each}

-- some of a list holds
pub record SomeOf {X : Type 0} (P : X → Type 0) (xs : List X) : Type 0 where
  pub one : X
  pub is_in : Mem one xs
  pub holds : P one

pub never : Decides false ⊥
never = (λ e. absurd (false≢true e), λ h. absurd h)

pub le_is : (a b : ℕ) → Decides (nat_le a b) (a ≤ b)
le_is a b = (λ e. grind (arith, nat_tests), λ h. grind (arith, nat_tests))

pub all_each : {X : Type 0} (p : X → Bool) (P : X → Type 0) → ((x : X) → Decides (p x) (P x)) → (xs : List X) → Decides (list_all p xs) ((x : X) → Mem x xs → P x)
all_each p P d [] = (λ e x m. absurd m, λ h. refl)
all_each {X} p P d (x ∷ xs) = Decides-like _ both parts (Decides-and (p x) (list_all p xs) (d x) (all_each p P d xs))
  where
    both : P x × ((y : X) → Mem y xs → P y) → (y : X) → Mem y (x ∷ xs) → P y
    both h y (inl e) = subst P (sym e) h.0
    both h y (inr m) = h.1 y m

    parts : ((y : X) → Mem y (x ∷ xs) → P y) → P x × ((y : X) → Mem y xs → P y)
    parts h = (h x (inl refl), λ y m. h y (inr m))

pub all_as_each : {X : Type 0} (p : X → Bool) (P : X → Type 0) → ((x : X) → Decides (p x) (P x)) → (xs : List X) → Decides (list_all p xs) (Each P xs)
all_as_each p P d [] = (λ e. tt, λ h. refl)
all_as_each p P d (x ∷ xs) = Decides-and (p x) (list_all p xs) (d x) (all_as_each p P d xs)

pub any_some : {X : Type 0} (p : X → Bool) (P : X → Type 0) → ((x : X) → Decides (p x) (P x)) → (xs : List X) → Decides (list_any p xs) (SomeOf P xs)
any_some p P d [] = (λ e. absurd (false≢true e), λ s. absurd s.is_in)
any_some {X} p P d (x ∷ xs) = Decides-like _ found which (Decides-or (p x) (list_any p xs) (d x) (any_some p P d xs))
  where
    found : P x ⊎ SomeOf P xs → SomeOf P (x ∷ xs)
    found (inl h) = record { one = x; is_in = inl refl; holds = h }
    found (inr s) = record { one = s.one; is_in = inr s.is_in; holds = s.holds }

    by_place : (y : X) → P y → Mem y (x ∷ xs) → P x ⊎ SomeOf P xs
    by_place y h (inl e) = inl (subst P e h)
    by_place y h (inr m) = inr (record { one = y; is_in = m; holds = h })

    which : SomeOf P (x ∷ xs) → P x ⊎ SomeOf P xs
    which s = by_place s.one s.holds s.is_in

-- a count of nothing
one_or_none : (b : Bool) → Decides (cond b 1 0 == 0) (b ≡ false)
one_or_none true = (λ e. absurd (false≢true e), λ e. absurd (false≢true (sym e)))
one_or_none false = (λ e. refl, λ e. refl)

pub none_is : {X : Type 0} (p : X → Bool) (xs : List X) → Decides (count_by p xs == 0) ((x : X) → Mem x xs → p x ≡ false)
none_is p xs = Decides-at _ _ (sum_by-zero (λ x. cond (p x) 1 0) xs) (all_each (λ x. cond (p x) 1 0 == 0) (λ x. p x ≡ false) (λ x. one_or_none (p x)) xs)

pub count_yes : {X : Type 0} (p : X → Bool) (x : X) (xs : List X) → p x ≡ true → count_by p (x ∷ xs) ≡ 1 + count_by p xs
count_yes p x xs e = sum_by-cons (λ y. cond (p y) 1 0) x xs ∙ ap (λ b. cond b 1 0 + count_by p xs) e

pub count_no : {X : Type 0} (p : X → Bool) (x : X) (xs : List X) → p x ≡ false → count_by p (x ∷ xs) ≡ 0 + count_by p xs
count_no p x xs e = sum_by-cons (λ y. cond (p y) 1 0) x xs ∙ ap (λ b. cond b 1 0 + count_by p xs) e

pub count_more : {X : Type 0} (p : X → Bool) (x : X) (xs : List X) → count_by p xs ≤ count_by p (x ∷ xs)
count_more p x xs = let e = sum_by-cons (λ y. cond (p y) 1 0) x xs in omega (arith, e)

zero_count : {X : Type 0} (p : X → Bool) (xs : List X) → count_by p xs ≤ 0 → (x : X) → Mem x xs → p x ≡ false
zero_count p xs h = (none_is p xs).0 (let e : count_by p xs ≡ 0 = omega arith in grind (arith, nat_tests))

count_zero : {X : Type 0} (p : X → Bool) (xs : List X) → ((x : X) → Mem x xs → p x ≡ false) → count_by p xs ≤ 0
count_zero p xs h = let e = (none_is p xs).1 h in grind (arith, nat_tests)

module _ {X : Type 0} (same : X → X → Bool) (itself : (x : X) → same x x ≡ true) (symm : (x y : X) → same x y ≡ same y x) where
  pub apart_from : (xs : List X) → ((m : X) → Mem m xs → count_by (λ y. same y m) xs ≤ 1) → Apart same xs
  apart_from [] h = tt
  apart_from (x ∷ xs) h = (λ y m. symm x y ∙ zero_count (λ z. same z x) xs none y m, apart_from xs rest)
    where
      none : count_by (λ z. same z x) xs ≤ 0
      none = let e = count_yes (λ z. same z x) x xs (itself x) in let k = h x (inl refl) in omega (arith, e, k)

      rest : (m : X) → Mem m xs → count_by (λ y. same y m) xs ≤ 1
      rest m i = let e = count_more (λ z. same z m) x xs in let k = h m (inr i) in omega (arith, e, k)

  pub apart_to : (xs : List X) → Apart same xs → (m : X) → Mem m xs → count_by (λ y. same y m) xs ≤ 1
  apart_to [] h m i = absurd i
  apart_to (x ∷ xs) h m (inl e) = subst (λ z. count_by (λ y. same y z) (x ∷ xs) ≤ 1) (sym e) here
    where
      here : count_by (λ y. same y x) (x ∷ xs) ≤ 1
      here = let n = count_zero (λ z. same z x) xs (λ y i. symm y x ∙ h.0 y i) in let k = count_yes (λ z. same z x) x xs (itself x) in omega (arith, n, k)
  apart_to (x ∷ xs) h m (inr i) = let k = count_no (λ z. same z m) x xs (h.0 m i) in let n = apart_to xs h.1 m i in omega (arith, k, n)

  pub apart_is : (xs : List X) → Decides (list_all (λ m. nat_le (count_by (λ y. same y m) xs) 1) xs) (Apart same xs)
  apart_is xs = Decides-like _ (apart_from xs) (apart_to xs) (all_each (λ m. nat_le (count_by (λ y. same y m) xs) 1) (λ m. count_by (λ y. same y m) xs ≤ 1) (λ m. le_is _ _) xs)
