-- Corrections in a map by the rows and places of their messages.
use Rattle.std.proofs.Common.{◌≡◌, ◌⊎◌, inl, inr, ℕ, List, [], ◌∷◌, map, refl, sym, ap, subst, ◌∙◌, Ordering}
use Rattle.std.specs.declared.cmp.Ordering.TheVariants.{Less, Equal, Greater}
use Rattle.std.specs.Ordering.{match_ordering}
use Rattle.std.specs.BTreeMap.{insert_entry}
use Rattle.std.specs.List.{AllByRecursion}
use Rattle.std.specs.List.Sorted.{IsStrictlySortedBy}
use Rattle.bs_log.specs.Rising.{IsLower}
use Rattle.bs_log.specs.Lists.{Mem}
use Rattle.bs_times.proofs.Members.{map_mem, mem_map}
use Rattle.bs_line.specs.declared.corrections.Correction.{Correction}
use Rattle.bs_line.proofs.Keys.{Stands, key_cmp, key_less, stands}
use Rattle.bs_settle.specs.Changes.{AreApart, AreOrdered, ChangesRise}

abbrev pub Key : Type 0
Key = ℕ × ℕ

abbrev pub Entry : Type 0
Entry = Key × Correction

abbrev pub key_of : Correction → Key
key_of c = (c.mail.row, c.mail.index)

-- the entries of the corrections that aren't left, in their order
pub record AreSorted (all left : List Correction) (entries : List Entry) : Type 0 where
  pub ordered : IsStrictlySortedBy key_cmp (map (λ e. e.0) entries)
  pub sound : (e : Entry) → Mem e entries → (e.0 ≡ key_of e.1) × Mem e.1 all
  pub some : (c : Correction) → Mem c all → Mem c left ⊎ Mem (key_of c, c) entries

-- ---- an entry more

record PutIn (before after : List Entry) (k : Key) (v : Correction) (d : Entry) : Type 0 where
  from : Mem d after → (d ≡ (k, v)) ⊎ Mem d before
  has : Mem (k, v) after
  keeps : Mem d before → (d.0 ≡ k) ⊎ Mem d after

put : (es : List Entry) (k : Key) (v : Correction) (d : Entry) → PutIn es (insert_entry key_cmp es k v) k v d
put [] k v d = record { from = from; has = inl refl; keeps = λ m. absurd m }
  where
    from : Mem d ((k, v) ∷ []) → (d ≡ (k, v)) ⊎ ⊥
    from (inl e) = inl e
    from (inr m) = inr m
put (e ∷ es) k v d = go (stands k e.0) (put es k v d)
  where
    at_order : (o : Ordering) → key_cmp k e.0 ≡ o → PutIn (e ∷ es) (match_ordering o ((k, v) ∷ e ∷ es) ((e.0, v) ∷ es) (e ∷ insert_entry key_cmp es k v)) k v d → PutIn (e ∷ es) (insert_entry key_cmp (e ∷ es) k v) k v d
    at_order o q h = subst (λ p. PutIn (e ∷ es) (match_ordering p ((k, v) ∷ e ∷ es) ((e.0, v) ∷ es) (e ∷ insert_entry key_cmp es k v)) k v d) (sym q) h

    before : PutIn (e ∷ es) ((k, v) ∷ e ∷ es) k v d
    before = record { from = from; has = inl refl; keeps = λ m. inr (inr m) }
      where
        from : Mem d ((k, v) ∷ e ∷ es) → (d ≡ (k, v)) ⊎ Mem d (e ∷ es)
        from (inl q) = inl q
        from (inr m) = inr m

    here : k ≡ e.0 → PutIn (e ∷ es) ((e.0, v) ∷ es) k v d
    here q = record { from = from; has = inl (λ i. (q i, v)); keeps = keeps }
      where
        from : Mem d ((e.0, v) ∷ es) → (d ≡ (k, v)) ⊎ Mem d (e ∷ es)
        from (inl p) = inl (p ∙ (λ i. (sym q i, v)))
        from (inr m) = inr (inr m)

        keeps : Mem d (e ∷ es) → (d.0 ≡ k) ⊎ Mem d ((e.0, v) ∷ es)
        keeps (inl p) = inl (ap (λ (x : Entry). x.0) p ∙ sym q)
        keeps (inr m) = inr (inr m)

    behind : PutIn es (insert_entry key_cmp es k v) k v d → PutIn (e ∷ es) (e ∷ insert_entry key_cmp es k v) k v d
    behind ih = record { from = from; has = inr ih.has; keeps = keeps }
      where
        later : (d ≡ (k, v)) ⊎ Mem d es → (d ≡ (k, v)) ⊎ Mem d (e ∷ es)
        later (inl p) = inl p
        later (inr m) = inr (inr m)

        from : Mem d (e ∷ insert_entry key_cmp es k v) → (d ≡ (k, v)) ⊎ Mem d (e ∷ es)
        from (inl p) = inr (inl p)
        from (inr m) = later (ih.from m)

        further : (d.0 ≡ k) ⊎ Mem d (insert_entry key_cmp es k v) → (d.0 ≡ k) ⊎ Mem d (e ∷ insert_entry key_cmp es k v)
        further (inl p) = inl p
        further (inr m) = inr (inr m)

        keeps : Mem d (e ∷ es) → (d.0 ≡ k) ⊎ Mem d (e ∷ insert_entry key_cmp es k v)
        keeps (inl p) = inr (inl p)
        keeps (inr m) = further (ih.keeps m)

    go : Stands k e.0 → PutIn es (insert_entry key_cmp es k v) k v d → PutIn (e ∷ es) (insert_entry key_cmp (e ∷ es) k v) k v d
    go (inl s) ih = at_order Less s.0 before
    go (inr (inl s)) ih = at_order Equal s.0 (here s.1)
    go (inr (inr s)) ih = at_order Greater s (behind ih)

-- ---- the map in the course of the loop

pub none_sorted : (all : List Correction) → AreSorted all all []
unfolding IsStrictlySortedBy
none_sorted all = record { ordered = tt; sound = λ e m. absurd m; some = λ c m. inl m }

pub one_sorted : (all left : List Correction) (c : Correction) (es : List Entry) → AreApart all → Mem c all → AreSorted all (c ∷ left) es → IsStrictlySortedBy key_cmp (map (λ e. e.0) (insert_entry key_cmp es (key_of c) c)) → AreSorted all left (insert_entry key_cmp es (key_of c) c)
one_sorted all left c es apart is h ordered = record {
  ordered = ordered;
  sound = λ e m. sound e ((put es (key_of c) c e).from m);
  some = λ d m. some d m (h.some d m);
}
  where
    sound : (e : Entry) → (e ≡ (key_of c, c)) ⊎ Mem e es → (e.0 ≡ key_of e.1) × Mem e.1 all
    sound e (inl q) = (ap (λ (x : Entry). x.0) q ∙ ap (λ (x : Entry). key_of x.1) (sym q), subst (λ x. Mem x all) (sym (ap (λ (x : Entry). x.1) q)) is)
    sound e (inr m) = h.sound e m

    same : (d : Correction) → Mem d all → key_of d ≡ key_of c → d ≡ c
    same d m q = apart d c m is (λ i. record { row = (q i).0; index = (q i).1 })

    kept : (d : Correction) → Mem d all → (key_of d ≡ key_of c) ⊎ Mem (key_of d, d) (insert_entry key_cmp es (key_of c) c) → Mem (key_of d, d) (insert_entry key_cmp es (key_of c) c)
    kept d m (inl q) = subst (λ x. Mem (key_of x, x) (insert_entry key_cmp es (key_of c) c)) (sym (same d m q)) (put es (key_of c) c (key_of c, c)).has
    kept d m (inr n) = n

    some : (d : Correction) → Mem d all → Mem d (c ∷ left) ⊎ Mem (key_of d, d) es → Mem d left ⊎ Mem (key_of d, d) (insert_entry key_cmp es (key_of c) c)
    some d m (inl (inl q)) = inr (subst (λ x. Mem (key_of x, x) (insert_entry key_cmp es (key_of c) c)) (sym q) (put es (key_of c) c (key_of c, c)).has)
    some d m (inl (inr l)) = inl l
    some d m (inr n) = inr (kept d m ((put es (key_of c) c (key_of d, d)).keeps n))

rises_from : (es : List Entry) → ((e : Entry) → Mem e es → e.0 ≡ key_of e.1) → IsStrictlySortedBy key_cmp (map (λ e. e.0) es) → ChangesRise (map (λ e. e.1) es)
unfolding IsStrictlySortedBy
rises_from [] keys h = tt
rises_from (e ∷ es) keys h = (λ c m. above es (λ d n. keys d (inr n)) h.0 c m, rises_from es (λ d n. keys d (inr n)) h.1)
  where
    lower : (d : Entry) → d.0 ≡ key_of d.1 → key_cmp e.0 d.0 ≡ Less → IsLower e.1.mail d.1.mail
    lower d q less = key_less (key_of e.1) (key_of d.1) (subst (λ k. key_cmp (key_of e.1) k ≡ Less) q (subst (λ k. key_cmp k d.0 ≡ Less) (keys e (inl refl)) less))

    above : (ds : List Entry) → ((d : Entry) → Mem d ds → d.0 ≡ key_of d.1) → AllByRecursion (λ k. key_cmp e.0 k ≡ Less) (map (λ d. d.0) ds) → (c : Correction) → Mem c (map (λ d. d.1) ds) → IsLower e.1.mail c.mail
    above [] q a c m = absurd m
    above (d ∷ ds) q a c (inl p) = subst (λ (x : Correction). IsLower e.1.mail x.mail) (sym p) (lower d (q d (inl refl)) a.0)
    above (d ∷ ds) q a c (inr m) = above ds (λ x n. q x (inr n)) a.1 c m

-- ---- the values of the map

pub all_sorted : (all : List Correction) (es : List Entry) → AreSorted all [] es → AreOrdered all (map (λ e. e.1) es)
all_sorted all es h = record {
  rises = rises_from es (λ e m. (h.sound e m).0) h.ordered;
  same = λ c. (λ m. from c m, λ m. back c (h.some c m));
}
  where
    from : (c : Correction) → Mem c (map (λ (e : Entry). e.1) es) → Mem c all
    from c m = let d = map_mem (λ (e : Entry). e.1) c es m in subst (λ x. Mem x all) (sym d.2) (h.sound d.0 d.1).1

    back : (c : Correction) → Mem c [] ⊎ Mem (key_of c, c) es → Mem c (map (λ (e : Entry). e.1) es)
    back c (inl m) = absurd m
    back c (inr m) = mem_map (λ (e : Entry). e.1) (key_of c, c) es m
