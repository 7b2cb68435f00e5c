-- The queue's keys, in the order of (ready tick, number).
use Rattle.std.proofs.Common.{◌≡◌, ℕ, ◌<◌, List, [], ◌∷◌, ◌⊎◌, inl, inr, refl, sym, ◌∙◌, arith, Ordering}
use Rattle.std.specs.declared.cmp.Ordering.TheVariants.{Less, Equal, Greater}
use Rattle.std.specs.Ordering.{nat_cmp, match_ordering}
use Rattle.std.specs.BTreeSet.{insert_key}
use Rattle.std.proofs.lemmas.Bool.{cases_order, lt-ltb, le-ltb, eq-eqb, ne_eqb, cond-true, cond-false}
use Rattle.bs_log.specs.Lists.{Mem}
use Rattle.bs_schedule.specs.Queue.{key_cmp}

abbrev pub Key : Type 0
Key = ℕ × ℕ

abbrev Tells : ℕ → ℕ → Type 0
Tells x y = ((nat_cmp x y ≡ Less) × (x < y)) ⊎ (((nat_cmp x y ≡ Equal) × (x ≡ y)) ⊎ ((nat_cmp x y ≡ Greater) × (y < x)))

tells : (x y : ℕ) → Tells x y
tells x y = go (cases_order x y)
  where
    go : (x ≡ y) ⊎ ((x < y) ⊎ (y < x)) → Tells x y
    go (inl e) = inr (inl (cond-false _ _ _ (le-ltb x y (omega (arith, e))) ∙ cond-true _ _ _ (eq-eqb x y e), e))
    go (inr (inl h)) = inl (cond-true _ _ _ (lt-ltb x y h), h)
    go (inr (inr h)) = inr (inr (cond-false _ _ _ (le-ltb x y (omega arith)) ∙ cond-false _ _ _ (ne_eqb x y (λ e. omega (arith, e, h))), h))

less_equal : Less ≡ Equal → ⊥
less_equal e = cc

greater_less : Greater ≡ Less → ⊥
greater_less e = cc

greater_equal : Greater ≡ Equal → ⊥
greater_equal e = cc

pub key_less : (a b : ℕ × ℕ) → key_cmp a b ≡ Less → (a.0 < b.0) ⊎ ((a.0 ≡ b.0) × (a.1 < b.1))
key_less a b h = go (tells a.0 b.0) (tells a.1 b.1)
  where
    go : Tells a.0 b.0 → Tells a.1 b.1 → (a.0 < b.0) ⊎ ((a.0 ≡ b.0) × (a.1 < b.1))
    go (inl x) y = inl x.1
    go (inr (inl x)) (inl y) = inr (x.1, y.1)
    go (inr (inl x)) (inr (inl y)) = absurd (less_equal (sym (rw (x.0, y.0) at h)))
    go (inr (inl x)) (inr (inr y)) = absurd (greater_less (rw (x.0, y.0) at h))
    go (inr (inr x)) y = absurd (greater_less (rw x.0 at h))

pub key_equal : (a b : ℕ × ℕ) → key_cmp a b ≡ Equal → a ≡ b
key_equal a b h = go (tells a.0 b.0) (tells a.1 b.1)
  where
    go : Tells a.0 b.0 → Tells a.1 b.1 → a ≡ b
    go (inl x) y = absurd (less_equal (rw x.0 at h))
    go (inr (inl x)) (inl y) = absurd (less_equal (rw (x.0, y.0) at h))
    go (inr (inl x)) (inr (inl y)) = λ i. (x.1 i, y.1 i)
    go (inr (inl x)) (inr (inr y)) = absurd (greater_equal (rw (x.0, y.0) at h))
    go (inr (inr x)) y = absurd (greater_equal (rw x.0 at h))

abbrev pub insert : List (ℕ × ℕ) → ℕ × ℕ → List (ℕ × ℕ)
insert ks k = insert_key key_cmp ks k

pub insert_has : (ks : List (ℕ × ℕ)) (k : ℕ × ℕ) → Mem k (insert ks k)
insert_has [] k = inl refl
insert_has (x ∷ xs) k = go (key_cmp k x) refl (insert_has xs k)
  where
    go : (o : Ordering) → key_cmp k x ≡ o → Mem k (insert xs k) → Mem k (match_ordering o (k ∷ x ∷ xs) (x ∷ xs) (x ∷ insert xs k))
    go Less e ih = inl refl
    go Equal e ih = inl (key_equal k x e)
    go Greater e ih = inr ih

pub insert_kept : (ks : List (ℕ × ℕ)) (k d : ℕ × ℕ) → Mem d ks → Mem d (insert ks k)
insert_kept [] k d m = absurd m
insert_kept (x ∷ xs) k d m = go (key_cmp k x) m (insert_kept xs k d)
  where
    go : (o : Ordering) → Mem d (x ∷ xs) → (Mem d xs → Mem d (insert xs k)) → Mem d (match_ordering o (k ∷ x ∷ xs) (x ∷ xs) (x ∷ insert xs k))
    go Less m ih = inr m
    go Equal m ih = m
    go Greater (inl e) ih = inl e
    go Greater (inr m) ih = inr (ih m)

pub insert_from : (ks : List (ℕ × ℕ)) (k d : ℕ × ℕ) → Mem d (insert ks k) → Mem d ks ⊎ (d ≡ k)
insert_from [] k d (inl e) = inr e
insert_from [] k d (inr m) = absurd m
insert_from (x ∷ xs) k d m = go (key_cmp k x) m (insert_from xs k d)
  where
    further : Mem d xs ⊎ (d ≡ k) → Mem d (x ∷ xs) ⊎ (d ≡ k)
    further (inl n) = inl (inr n)
    further (inr e) = inr e

    go : (o : Ordering) → Mem d (match_ordering o (k ∷ x ∷ xs) (x ∷ xs) (x ∷ insert xs k)) → (Mem d (insert xs k) → Mem d xs ⊎ (d ≡ k)) → Mem d (x ∷ xs) ⊎ (d ≡ k)
    go Less (inl e) ih = inr e
    go Less (inr n) ih = inl n
    go Equal n ih = inl n
    go Greater (inl e) ih = inl (inl e)
    go Greater (inr n) ih = further (ih n)
