-- A list whose items differ, and are all in another list, is no longer than that.
use Rattle.std.proofs.Common.{◌≡◌, ◌≤◌, inl, inr, suc, List, [], ◌∷◌, refl, sym, ap, ◌∙◌, length, arith, zero-le}
use Rattle.bs_log.specs.Lists.{Mem, InOrder}

-- a list without one of its items
pub record Without {A : Type 0} (x : A) (ys : List A) : Type 0 where
  pub rest : List A
  pub count : length ys ≡ suc (length rest)
  pub others : (y : A) → (y ≡ x → ⊥) → Mem y ys → Mem y rest

without_more : {A : Type 0} (x a : A) (ys : List A) → Without x ys → Without x (a ∷ ys)
without_more {A} x a ys w = record { rest = a ∷ w.rest; count = ap suc w.count; others = λ y k m. other y k m }
  where
    other : (y : A) → (y ≡ x → ⊥) → Mem y (a ∷ ys) → Mem y (a ∷ w.rest)
    other y k (inl f) = inl f
    other y k (inr i) = inr (w.others y k i)

pub without : {A : Type 0} (x : A) (ys : List A) → Mem x ys → Without x ys
without x [] m = absurd m
without {A} x (a ∷ ys) (inl e) = record { rest = ys; count = refl; others = λ y h m. other y h m }
  where
    other : (y : A) → (y ≡ x → ⊥) → Mem y (a ∷ ys) → Mem y ys
    other y h (inl f) = absurd (h (f ∙ sym e))
    other y h (inr m) = m
without x (a ∷ ys) (inr m) = without_more x a ys (without x ys m)

-- no two are the same
abbrev pub Distinct : {A : Type 0} → List A → Type 0
Distinct = InOrder (λ x y. x ≡ y → ⊥)

pub no_longer : {A : Type 0} (xs ys : List A) → Distinct xs → ((x : A) → Mem x xs → Mem x ys) → length xs ≤ length ys
no_longer [] ys h f = zero-le
no_longer (x ∷ xs) ys h f =
    let w = without x ys (f x (inl refl)) in
    let more = no_longer xs w.rest h.1 (λ y m. w.others y (λ e. h.0 y m (sym e)) (f y (inr m))) in
    let count = w.count in
    omega (arith, more, count)
