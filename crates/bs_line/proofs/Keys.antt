-- Messages as keys of an ordered set.
use Rattle.std.proofs.Common.{◌≡◌, ◌<◌, ◌+◌, ◌⊎◌, inl, inr, ◌↔◌, ℕ, List, [], ◌∷◌, ◌++◌, length, get_or, map, take, sym, ap, subst, ◌∙◌, arith, Ordering}
use Rattle.std.specs.declared.cmp.Ordering.TheVariants.{Less, Equal, Greater}
use Rattle.std.specs.Ordering.{nat_cmp, match_ordering, ordering_then}
use Rattle.std.specs.BTreeSet.{insert_key}
use Rattle.std.specs.List.{AllByRecursion}
use Rattle.std.specs.List.Sorted.{IsStrictlySortedBy}
use Rattle.std.proofs.lemmas.Bool.{cases_order, lt-ltb, le-ltb, eq-eqb, ne_eqb, cond-true, cond-false}
use Rattle.std.proofs.lemmas.List.{take_more}
use Rattle.bs_log.specs.declared.log.MailRef.{MailRef}
use Rattle.bs_log.specs.Rising.{IsLower}
use Rattle.bs_log.specs.Lists.{Mem, InOrder}
use Rattle.bs_times.proofs.Members.{map_mem, mem_cases, mem_left, mem_map, mem_right}
use Rattle.bs_line.specs.Listing.{HasAdded, keyed}
use Rattle.bs_line.specs.Places.{AreMails}

abbrev pub key_cmp : ℕ × ℕ → ℕ × ℕ → Ordering
key_cmp x y = ordering_then (nat_cmp x.0 y.0) (nat_cmp x.1 y.1)

abbrev Tells : ℕ → ℕ → Type 0
Tells x y = ((nat_cmp x y ≡ Less) × (x < y)) ⊎ (((nat_cmp x y ≡ Equal) × (x ≡ y)) ⊎ ((nat_cmp x y ≡ Greater) × (y < x)))

tells : (x y : ℕ) → Tells x y
tells x y = go (cases_order x y)
  where
    go : (x ≡ y) ⊎ ((x < y) ⊎ (y < x)) → Tells x y
    go (inl e) = inr (inl (cond-false _ _ _ (le-ltb x y (omega (arith, e))) ∙ cond-true _ _ _ (eq-eqb x y e), e))
    go (inr (inl h)) = inl (cond-true _ _ _ (lt-ltb x y h), h)
    go (inr (inr h)) = inr (inr (cond-false _ _ _ (le-ltb x y (omega arith)) ∙ cond-false _ _ _ (ne_eqb x y (λ e. omega (arith, e, h))), h))

-- how two keys stand to each other.
abbrev pub Stands : ℕ × ℕ → ℕ × ℕ → Type 0
Stands a b = ((key_cmp a b ≡ Less) × ((a.0 < b.0) ⊎ ((a.0 ≡ b.0) × (a.1 < b.1)))) ⊎ (((key_cmp a b ≡ Equal) × (a ≡ b)) ⊎ (key_cmp a b ≡ Greater))

pub stands : (a b : ℕ × ℕ) → Stands a b
stands a b = go (tells a.0 b.0) (tells a.1 b.1)
  where
    go : Tells a.0 b.0 → Tells a.1 b.1 → Stands a b
    go (inl x) y = inl (ap (λ o. ordering_then o (nat_cmp a.1 b.1)) x.0, inl x.1)
    go (inr (inl x)) (inl y) = inl (ap (λ o. ordering_then o (nat_cmp a.1 b.1)) x.0 ∙ y.0, inr (x.1, y.1))
    go (inr (inl x)) (inr (inl y)) = inr (inl (ap (λ o. ordering_then o (nat_cmp a.1 b.1)) x.0 ∙ y.0, λ i. (x.1 i, y.1 i)))
    go (inr (inl x)) (inr (inr y)) = inr (inr (ap (λ o. ordering_then o (nat_cmp a.1 b.1)) x.0 ∙ y.0))
    go (inr (inr x)) y = inr (inr (ap (λ o. ordering_then o (nat_cmp a.1 b.1)) x.0))

pub key_less : (a b : ℕ × ℕ) → key_cmp a b ≡ Less → (a.0 < b.0) ⊎ ((a.0 ≡ b.0) × (a.1 < b.1))
key_less a b h = go (stands a b)
  where
    go : Stands a b → (a.0 < b.0) ⊎ ((a.0 ≡ b.0) × (a.1 < b.1))
    go (inl x) = x.1
    go (inr (inl x)) = let e : Equal ≡ Less = sym x.0 ∙ h in absurd cc
    go (inr (inr x)) = let e : Greater ≡ Less = sym x ∙ h in absurd cc

-- a key that is inserted is there, and all others are as before.
abbrev Put : List (ℕ × ℕ) → ℕ × ℕ → ℕ × ℕ → Type 0
Put ks k d = Mem d (insert_key key_cmp ks k) ↔ (Mem d ks ⊎ (d ≡ k))

pub inserted : (ks : List (ℕ × ℕ)) (k d : ℕ × ℕ) → Put ks k d
inserted [] k d = (λ m. from m, back)
  where
    from : Mem d (k ∷ []) → ⊥ ⊎ (d ≡ k)
    from (inl e) = inr e
    from (inr m) = inl m

    back : ⊥ ⊎ (d ≡ k) → Mem d (k ∷ [])
    back (inl m) = inr m
    back (inr e) = inl e
inserted (x ∷ xs) k d = go (stands k x) (inserted xs k d)
  where
    at_order : (o : Ordering) → key_cmp k x ≡ o → Mem d (match_ordering o (k ∷ x ∷ xs) (x ∷ xs) (x ∷ insert_key key_cmp xs k)) ↔ (Mem d (x ∷ xs) ⊎ (d ≡ k)) → Put (x ∷ xs) k d
    at_order o e h = subst (λ p. Mem d (match_ordering p (k ∷ x ∷ xs) (x ∷ xs) (x ∷ insert_key key_cmp xs k)) ↔ (Mem d (x ∷ xs) ⊎ (d ≡ k))) (sym e) h

    first : Mem d (k ∷ x ∷ xs) → Mem d (x ∷ xs) ⊎ (d ≡ k)
    first (inl e) = inr e
    first (inr m) = inl m

    first_back : Mem d (x ∷ xs) ⊎ (d ≡ k) → Mem d (k ∷ x ∷ xs)
    first_back (inl m) = inr m
    first_back (inr e) = inl e

    same_back : k ≡ x → Mem d (x ∷ xs) ⊎ (d ≡ k) → Mem d (x ∷ xs)
    same_back e (inl m) = m
    same_back e (inr q) = inl (q ∙ e)

    later : Mem d xs ⊎ (d ≡ k) → Mem d (x ∷ xs) ⊎ (d ≡ k)
    later (inl m) = inl (inr m)
    later (inr e) = inr e

    behind : Put xs k d → Mem d (x ∷ insert_key key_cmp xs k) → Mem d (x ∷ xs) ⊎ (d ≡ k)
    behind ih (inl e) = inl (inl e)
    behind ih (inr m) = later (ih.0 m)

    behind_back : Put xs k d → Mem d (x ∷ xs) ⊎ (d ≡ k) → Mem d (x ∷ insert_key key_cmp xs k)
    behind_back ih (inl (inl e)) = inl e
    behind_back ih (inl (inr m)) = inr (ih.1 (inl m))
    behind_back ih (inr e) = inr (ih.1 (inr e))

    go : Stands k x → Put xs k d → Put (x ∷ xs) k d
    go (inl s) ih = at_order Less s.0 (first, first_back)
    go (inr (inl s)) ih = at_order Equal s.0 (λ m. inl m, same_back s.1)
    go (inr (inr s)) ih = at_order Greater s (behind ih, behind_back ih)

pub keyed_back : (a b : MailRef) → keyed a ≡ keyed b → a ≡ b
keyed_back a b e = λ i. record { row = (e i).0; index = (e i).1 }

-- messages rise whose keys are sorted.
pub keys_rise : (ms : List MailRef) → IsStrictlySortedBy key_cmp (map keyed ms) → InOrder IsLower ms
unfolding IsStrictlySortedBy
keys_rise [] h = tt
keys_rise (m ∷ ms) h = (λ y is. above ms y h.0 is, keys_rise ms h.1)
  where
    above : (xs : List MailRef) (y : MailRef) → AllByRecursion (λ k. key_cmp (keyed m) k ≡ Less) (map keyed xs) → Mem y xs → IsLower m y
    above [] y h is = absurd is
    above (x ∷ xs) y h (inl e) = subst (λ z. IsLower m z) (sym e) (key_less (keyed m) (keyed x) h.0)
    above (x ∷ xs) y h (inr is) = above xs y h.1 is

-- messages in the order of their keys.
pub in_order : (ms : List MailRef) (keys : List (ℕ × ℕ)) → map keyed ms ≡ keys → IsStrictlySortedBy key_cmp keys → AreMails (λ m. Mem (keyed m) keys) ms
in_order ms keys e sorted = record {
  rises = keys_rise ms (subst (IsStrictlySortedBy key_cmp) (sym e) sorted);
  all = λ m. (λ k. there m (map_mem keyed (keyed m) ms (subst (λ ks. Mem (keyed m) ks) (sym e) k)), λ k. subst (λ ks. Mem (keyed m) ks) e (mem_map keyed m ms k));
}
  where
    there : (m : MailRef) → ((x : MailRef) × Mem x ms × (keyed m ≡ keyed x)) → Mem m ms
    there m d = subst (λ x. Mem x ms) (sym (keyed_back m d.0 d.2)) d.1

pub added_none : (keys : List (ℕ × ℕ)) → HasAdded [] keys keys
added_none keys m = (λ k. inl k, λ d. go d)
  where
    go : Mem (keyed m) keys ⊎ ⊥ → Mem (keyed m) keys
    go (inl k) = k
    go (inr k) = absurd k

added_one : (front : List MailRef) (x : MailRef) (old mid : List (ℕ × ℕ)) → HasAdded front old mid → HasAdded (front ++ x ∷ []) old (insert_key key_cmp mid (keyed x))
added_one front x old mid h m = (λ k. there ((inserted mid (keyed x) (keyed m)).0 k), λ k. (inserted mid (keyed x) (keyed m)).1 (back k))
  where
    behind : Mem (keyed m) old ⊎ Mem m front → Mem (keyed m) old ⊎ Mem m (front ++ x ∷ [])
    behind (inl k) = inl k
    behind (inr k) = inr (mem_left m front (x ∷ []) k)

    there : Mem (keyed m) mid ⊎ (keyed m ≡ keyed x) → Mem (keyed m) old ⊎ Mem m (front ++ x ∷ [])
    there (inl k) = behind ((h m).0 k)
    there (inr q) = inr (mem_right m front (x ∷ []) (inl (keyed_back m x q)))

    one : Mem m front ⊎ Mem m (x ∷ []) → Mem (keyed m) mid ⊎ (keyed m ≡ keyed x)
    one (inl k) = inl ((h m).1 (inr k))
    one (inr (inl q)) = inr (ap keyed q)
    one (inr (inr k)) = absurd k

    back : Mem (keyed m) old ⊎ Mem m (front ++ x ∷ []) → Mem (keyed m) mid ⊎ (keyed m ≡ keyed x)
    back (inl k) = inl ((h m).1 (inl k))
    back (inr k) = one (mem_cases m front (x ∷ []) k)

pub added_more : (ms : List MailRef) (i : ℕ) (d : MailRef) (old mid new : List (ℕ × ℕ)) → i < length ms → HasAdded (take i ms) old mid → new ≡ insert_key key_cmp mid (keyed (get_or ms i d)) → HasAdded (take (i + 1) ms) old new
added_more ms i d old mid new lt h e =
    subst (λ xs. HasAdded xs old new) (sym (take_more ms i d lt)) (subst (HasAdded (take i ms ++ get_or ms i d ∷ []) old) (sym e) (added_one (take i ms) (get_or ms i d) old mid h))
