-- Rows of one processor don't overlap, so a row that ends when another starts is the one before it.
use Rattle.std.proofs.Common.{◌≡◌, ◌≤◌, ◌<◌, ◌+◌, ◌⊎◌, ◌↔◌, inl, inr, ℕ, refl, sym, ap, ◌∙◌, arith}
use Rattle.bs_log.specs.declared.log.MailRef.{MailRef}
use Rattle.bs_log.specs.Lists.{Mem}
use Rattle.bs_times.specs.Net.{Net, Starts, HasRow, Causal}
use Rattle.bs_times.specs.Times.{Comes, IsOn, IsConsistent, arrival, end_of, ready}
use Rattle.bs_times.proofs.Order.{Packed, packed}
use Rattle.bs_times.proofs.Ready.{ready_from}
use Rattle.bs_path.specs.Chain.{IsJustBefore}

-- one of two rows comes before the other, or they are the same
compared : (r : Starts) (i j : ℕ) → Comes r i j ⊎ (Comes r j i ⊎ (i ≡ j))
compared r i j = go (three (r i) (r j)) (three i j)
  where
    three : (a b : ℕ) → (a < b) ⊎ ((b < a) ⊎ (a ≡ b))
    three a b = grind arith

    go : (r i < r j) ⊎ ((r j < r i) ⊎ (r i ≡ r j)) → (i < j) ⊎ ((j < i) ⊎ (i ≡ j)) → Comes r i j ⊎ (Comes r j i ⊎ (i ≡ j))
    go (inl h) k = inl (inl h)
    go (inr (inl h)) k = inr (inl (inl h))
    go (inr (inr e)) (inl k) = inl (inr (e, k))
    go (inr (inr e)) (inr (inl k)) = inr (inl (inr (sym e, k)))
    go (inr (inr e)) (inr (inr k)) = inr (inr k)

module _ (net : Net) (c : Causal net) (s : Starts) (table : IsConsistent net s) where
  line : (p : ℕ) → Packed net p (ready net (arrival net s) s) s
  line p = packed net p (arrival net s) s (table p)

  -- where a row starts before another one of its processor it ends before that starts
  pub ends_first : (p i j : ℕ) → IsOn net p i → IsOn net p j → s i < s j → end_of net s i ≤ s j
  ends_first p i j on jn h = go (compared (ready net (arrival net s) s) i j)
    where
      go : Comes (ready net (arrival net s) s) i j ⊎ (Comes (ready net (arrival net s) s) j i ⊎ (i ≡ j)) → end_of net s i ≤ s j
      go (inl k) = (line p).follows i j on jn k
      go (inr (inl k)) = absurd (omega (arith, (line p).follows j i jn on k, h))
      go (inr (inr e)) = absurd (omega (arith, ap s e, h))

  -- rows of a processor start in their order
  pub in_order : (p i j : ℕ) → IsOn net p i → IsOn net p j → Comes (ready net (arrival net s) s) i j ↔ (s i < s j)
  in_order p i j on jn = (λ k. omega (arith, (line p).follows i j on jn k, c.duration i on.0), λ h. go h (compared (ready net (arrival net s) s) i j))
    where
      go : s i < s j → Comes (ready net (arrival net s) s) i j ⊎ (Comes (ready net (arrival net s) s) j i ⊎ (i ≡ j)) → Comes (ready net (arrival net s) s) i j
      go h (inl k) = k
      go h (inr (inl k)) = absurd (omega (arith, (line p).follows j i jn on k, h))
      go h (inr (inr e)) = absurd (omega (arith, ap s e, h))

  -- no two rows of a processor start at once
  pub same_row : (p i j : ℕ) → IsOn net p i → IsOn net p j → s i ≡ s j → i ≡ j
  same_row p i j on jn e = go (compared (ready net (arrival net s) s) i j)
    where
      go : Comes (ready net (arrival net s) s) i j ⊎ (Comes (ready net (arrival net s) s) j i ⊎ (i ≡ j)) → i ≡ j
      go (inl k) = absurd (omega (arith, (line p).follows i j on jn k, c.duration i on.0, e))
      go (inr (inl k)) = absurd (omega (arith, (line p).follows j i jn on k, c.duration j jn.0, e))
      go (inr (inr k)) = k

  -- a row that ends when one of its processor starts is the one before it
  pub just_before : (i j : ℕ) → IsOn net (net.home i) j → end_of net s j ≡ s i → IsJustBefore net s j i
  just_before i j on e =
      let takes : 1 ≤ net.duration j = c.duration j on.0 in
      record { there = on; earlier = omega (arith, e, takes); last = λ k kn h. go k kn h (cases (s k) (s j)) }
    where
      cases : (a b : ℕ) → (a ≤ b) ⊎ (b < a)
      cases a b = grind arith

      go : (k : ℕ) → IsOn net (net.home i) k → s k < s i → (s k ≤ s j) ⊎ (s j < s k) → s k ≤ s j
      go k kn h (inl le) = le
      go k kn h (inr lt) = absurd (omega (arith, ends_first (net.home i) j k on kn lt, e, h))

  -- there is only one row just before another
  pub one_before : (i j k : ℕ) → IsJustBefore net s j i → IsJustBefore net s k i → j ≡ k
  one_before i j k a b = same_row (net.home i) j k a.there b.there (omega (arith, a.last k b.there b.earlier, b.last j a.there a.earlier))

  -- what lets a row start that starts above 0
  abbrev pub Waits : ℕ → Type 0
  Waits i = (s i ≡ 0) ⊎ (((j : ℕ) × IsOn net (net.home i) j × (end_of net s j ≡ s i)) ⊎ (((x : ℕ) × Mem x (net.after i) × (end_of net s x ≡ s i)) ⊎ ((m : MailRef) × Mem m (net.mail i) × (arrival net s m ≡ s i))))

  pub waits : (i : ℕ) → HasRow net i → Waits i
  waits i has = go ((line (net.home i)).cause i (has, refl)) (ready_from net (arrival net s) s i)
    where
      by_ready : s i ≡ ready net (arrival net s) s i → (ready net (arrival net s) s i ≡ 0) ⊎ (((x : ℕ) × Mem x (net.after i) × (ready net (arrival net s) s i ≡ s x + net.duration x)) ⊎ ((m : MailRef) × Mem m (net.mail i) × (ready net (arrival net s) s i ≡ arrival net s m))) → Waits i
      by_ready e (inl z) = inl (e ∙ z)
      by_ready e (inr (inl d)) = inr (inr (inl (d.0, d.1, sym (e ∙ d.2))))
      by_ready e (inr (inr d)) = inr (inr (inr (d.0, d.1, sym (e ∙ d.2))))

      go : (s i ≡ ready net (arrival net s) s i) ⊎ ((j : ℕ) × IsOn net (net.home i) j × Comes (ready net (arrival net s) s) j i × (s i ≡ s j + net.duration j)) → (ready net (arrival net s) s i ≡ 0) ⊎ (((x : ℕ) × Mem x (net.after i) × (ready net (arrival net s) s i ≡ s x + net.duration x)) ⊎ ((m : MailRef) × Mem m (net.mail i) × (ready net (arrival net s) s i ≡ arrival net s m))) → Waits i
      go (inl e) r = by_ready e r
      go (inr d) r = inr (inl (d.0, d.1, sym d.3))
