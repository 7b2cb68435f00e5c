-- The order of (tick, number).
use Rattle.std.proofs.Common.{◌≡◌, ◌≤◌, ◌<◌, ◌⊎◌, inl, inr, ℕ, ap, ◌∙◌, arith, true, false}
use Rattle.std.specs.declared.cmp.Ordering.TheVariants.{Less, Equal, Greater}
use Rattle.std.specs.Ordering.{nat_cmp, ordering_then, is_gt}
use Rattle.std.specs.BTreeMap.{is_at}
use Rattle.std.proofs.lemmas.Bool.{cases_order, lt-ltb, le-ltb, eq-eqb, ne_eqb, cond-true, cond-false}
use Rattle.bs_model.specs.Line.{key_cmp}

abbrev Tells : ℕ → ℕ → Type 0
Tells x y = ((nat_cmp x y ≡ Less) × (x < y)) ⊎ (((nat_cmp x y ≡ Equal) × (x ≡ y)) ⊎ ((nat_cmp x y ≡ Greater) × (y < x)))

tells : (x y : ℕ) → Tells x y
tells x y = go (cases_order x y)
  where
    go : (x ≡ y) ⊎ ((x < y) ⊎ (y < x)) → Tells x y
    go (inl e) = inr (inl (cond-false _ _ _ (le-ltb x y (omega (arith, e))) ∙ cond-true _ _ _ (eq-eqb x y e), e))
    go (inr (inl h)) = inl (cond-true _ _ _ (lt-ltb x y h), h)
    go (inr (inr h)) = inr (inr (cond-false _ _ _ (le-ltb x y (omega arith)) ∙ cond-false _ _ _ (ne_eqb x y (λ e. omega (arith, e, h))), h))

-- how two keys stand to each other
abbrev pub Stands : ℕ × ℕ → ℕ × ℕ → Type 0
Stands a b = ((key_cmp a b ≡ Less) × ((a.0 < b.0) ⊎ ((a.0 ≡ b.0) × (a.1 < b.1)))) ⊎ (((key_cmp a b ≡ Equal) × (a ≡ b)) ⊎ ((key_cmp a b ≡ Greater) × (a ≡ b → ⊥)))

pub stands : (a b : ℕ × ℕ) → Stands a b
stands a b = go (tells a.0 b.0) (tells a.1 b.1)
  where
    go : Tells a.0 b.0 → Tells a.1 b.1 → Stands a b
    go (inl x) y = inl (ap (λ o. ordering_then o (nat_cmp a.1 b.1)) x.0, inl x.1)
    go (inr (inl x)) (inl y) = inl (ap (λ o. ordering_then o (nat_cmp a.1 b.1)) x.0 ∙ y.0, inr (x.1, y.1))
    go (inr (inl x)) (inr (inl y)) = inr (inl (ap (λ o. ordering_then o (nat_cmp a.1 b.1)) x.0 ∙ y.0, λ i. (x.1 i, y.1 i)))
    go (inr (inl x)) (inr (inr y)) = inr (inr (ap (λ o. ordering_then o (nat_cmp a.1 b.1)) x.0 ∙ y.0, λ e. let n = ap (λ (k : ℕ × ℕ). k.1) e in let l = y.1 in omega (arith, n, l)))
    go (inr (inr x)) y = inr (inr (ap (λ o. ordering_then o (nat_cmp a.1 b.1)) x.0, λ e. let n = ap (λ (k : ℕ × ℕ). k.0) e in let l = x.1 in omega (arith, n, l)))

-- a key finds itself, and none but itself
pub same_key : (a b : ℕ × ℕ) → is_at (key_cmp a) b ≡ true → a ≡ b
same_key a b h = go (stands a b)
  where
    go : Stands a b → a ≡ b
    go (inl x) = let e = x.0 in absurd (cc)
    go (inr (inl x)) = x.1
    go (inr (inr x)) = let e = x.0 in absurd (cc)

pub other_key : (a b : ℕ × ℕ) → is_at (key_cmp a) b ≡ false → a ≡ b → ⊥
other_key a b h = go (stands a b)
  where
    go : Stands a b → a ≡ b → ⊥
    go (inl x) = let l = x.1 in before l
      where
        before : (a.0 < b.0) ⊎ ((a.0 ≡ b.0) × (a.1 < b.1)) → a ≡ b → ⊥
        before (inl l) e = let n = ap (λ (k : ℕ × ℕ). k.0) e in omega (arith, n, l)
        before (inr l) e = let n = ap (λ (k : ℕ × ℕ). k.1) e in let k = l.1 in omega (arith, n, k)
    go (inr (inl x)) = let e = x.0 in absurd (cc)
    go (inr (inr x)) = x.1

-- a key that is not greater than another one
pub key_up : (a b : ℕ × ℕ) → is_gt (key_cmp a b) ≡ false → (a.0 < b.0) ⊎ ((a.0 ≡ b.0) × (a.1 ≤ b.1))
key_up a b h = go (stands a b)
  where
    less : (a.0 < b.0) ⊎ ((a.0 ≡ b.0) × (a.1 < b.1)) → (a.0 < b.0) ⊎ ((a.0 ≡ b.0) × (a.1 ≤ b.1))
    less (inl l) = inl l
    less (inr l) = let k = l.1 in inr (l.0, omega (arith, k))

    go : Stands a b → (a.0 < b.0) ⊎ ((a.0 ≡ b.0) × (a.1 ≤ b.1))
    go (inl x) = less x.1
    go (inr (inl x)) = let one = ap (λ (k : ℕ × ℕ). k.0) x.1 in let two = ap (λ (k : ℕ × ℕ). k.1) x.1 in inr (one, omega (arith, two))
    go (inr (inr x)) = let e = x.0 in absurd (cc)
