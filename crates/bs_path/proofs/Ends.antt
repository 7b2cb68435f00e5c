-- Rows in a map by their processors and ends.
use Rattle.std.proofs.Common.{◌≡◌, ◌+◌, ◌==◌, ◌&&◌, ◌⊎◌, inl, inr, ℕ, suc, true, false, cond, Option, Some, None, sym, ap, ap₂, subst, ◌∙◌, eqb-true, eq-eqb, arith}
use Rattle.std.specs.BTreeMap.{BTreeMap, get, is_at}
use Rattle.std.specs.Ordering.{nat_cmp}
use Rattle.std.specs.Cmp.{tied_then, unsigned_ties}
use Rattle.std.proofs.lemmas.Bool.{and_from, and_parts, cases_Bool, true≢false}
use Rattle.bs_times.specs.Net.{Net, Starts, HasRow}
use Rattle.bs_times.specs.Times.{IsOn, end_of}
use Rattle.bs_path.specs.Ended.{EndsAt, key_cmp}
use Rattle.bs_path.proofs.Ways.{ends_more}

same_key : (a b : ℕ × ℕ) → is_at (key_cmp a) b ≡ ((a.0 == b.0) && (a.1 == b.1))
same_key a b = sym (tied_then (nat_cmp a.0 b.0) (nat_cmp a.1 b.1)) ∙ ap₂ (λ s t. s && t) (sym (unsigned_ties a.0 b.0)) (sym (unsigned_ties a.1 b.1))

key_is : (a b : ℕ × ℕ) → is_at (key_cmp a) b ≡ true → (a.0 ≡ b.0) × (a.1 ≡ b.1)
key_is a b e = let two = and_parts (a.0 == b.0) (a.1 == b.1) (sym (same_key a b) ∙ e) in (eqb-true _ _ two.0, eqb-true _ _ two.1)

is_key : (a b : ℕ × ℕ) → a.0 ≡ b.0 → a.1 ≡ b.1 → is_at (key_cmp a) b ≡ true
is_key a b e f = same_key a b ∙ and_from _ _ (eq-eqb _ _ e) (eq-eqb _ _ f)

-- one row more
pub ends_put : (net : Net) (s : Starts) (n k a b : ℕ) (old new : BTreeMap (ℕ × ℕ) ℕ) → k ≡ n + 1 → HasRow net k → a ≡ net.home k → b ≡ end_of net s k
    → ((q : ℕ × ℕ) → get key_cmp new q ≡ cond (is_at (key_cmp (a, b)) q) (Some k) (get key_cmp old q))
    → ((p t : ℕ) → EndsAt net s n p t (get key_cmp old (p, t))) → (p t : ℕ) → EndsAt net s (n + 1) p t (get key_cmp new (p, t))
ends_put net s n k a b old new is has home end put before p t = go (cases_Bool (is_at (key_cmp (a, b)) (p, t)))
  where
    next : k ≡ suc n
    next = omega (arith, is)

    most : suc n ≡ n + 1
    most = omega arith

    not : is_at (key_cmp (a, b)) (p, t) ≡ false → IsOn net p (suc n) → end_of net s (suc n) ≡ t → ⊥
    not q on e = true≢false (sym (is_key (a, b) (p, t) (home ∙ ap net.home next ∙ on.1) (end ∙ ap (end_of net s) next ∙ e)) ∙ q)

    kept : (o : Option ℕ) → EndsAt net s n p t o → is_at (key_cmp (a, b)) (p, t) ≡ false → EndsAt net s (n + 1) p t o
    kept (Some j) h q = h
    kept None h q = subst (λ m. EndsAt net s m p t None) most (ends_more net s n p t h (not q))

    go : (is_at (key_cmp (a, b)) (p, t) ≡ true) ⊎ (is_at (key_cmp (a, b)) (p, t) ≡ false) → EndsAt net s (n + 1) p t (get key_cmp new (p, t))
    go (inl q) =
        let at : get key_cmp new (p, t) ≡ Some k = put (p, t) ∙ ap (λ c. cond c (Some k) (get key_cmp old (p, t))) q in
        let key = key_is (a, b) (p, t) q in
        subst (EndsAt net s (n + 1) p t) (sym at) ((has, sym home ∙ key.0), sym end ∙ key.1)
    go (inr q) =
        let at : get key_cmp new (p, t) ≡ get key_cmp old (p, t) = put (p, t) ∙ ap (λ c. cond c (Some k) (get key_cmp old (p, t))) q in
        subst (EndsAt net s (n + 1) p t) (sym at) (kept (get key_cmp old (p, t)) (before p t) q)
