-- Whether a state is clean and which block is started next can be decided.
use Rattle.std.proofs.Common.{◌≡◌, ◌≤◌, ◌<◌, ◌⊎◌, inl, inr, ℕ, false, List, [], ◌∷◌, Ordering, Less, Equal, Option, Some, None, refl, sym, ap, subst, ◌∙◌, nat_cmp, arith}
use Rattle.std.specs.Ordering.{is_gt, ordering_then}
use Rattle.std.specs.Cmp.{IsTotalOrder}
use Rattle.std.specs.Cmp.Lexicographic.{slice_cmp}
use Rattle.std.proofs.lemmas.Bool.{cases_lt}
use Rattle.std.proofs.lemmas.Cmp.{nat_cmp_total, on_total, then_total}
use Rattle.std.proofs.lemmas.Map.Lookups.{exact_bytes}
use Rattle.bs_tree.specs.declared.tree.Program.{Program}
use Rattle.bs_tree.specs.declared.tree.Path.{Path}
use Rattle.bs_log.specs.declared.history.Block.{Block}
use Rattle.bs_log.specs.Size.{size_all}
use Rattle.bs_log.specs.Lists.{Mem}
use Rattle.bs_semantics.specs.Run.{history}
use Rattle.bs_semantics.specs.Rounds.{mail_to}
use Rattle.bs_semantics.specs.Verdict.{Twice, ambiguous}
use Rattle.bs_semantics.specs.Serial.{Machine, Started, messages, histories_at, IsClean, find, IsEnabled, ready, free, would_start, Earlier, IsNext}
use Rattle.bs_semantics.specs.Starting.{NoneEnabled}
use Rattle.bs_semantics.specs.Reached.{Placed, blocks_from}
use Rattle.bs_semantics.proofs.Options.{none_some}
use Rattle.bs_semantics.proofs.Ambiguous.{once_of, of_once}
use Rattle.bs_semantics.proofs.Rising.{run_rising}
use Rattle.bs_semantics.proofs.Sorted.{one_at}
use Rattle.bs_semantics.proofs.Reached.{is_placed, place_in, placed_cmp, placed_total}
use Rattle.bs_semantics.proofs.Least.{Decided, Least, NoneHolds, least_or_none, IsNoGreaterBy, number_first, less_or_equal}

module _ (p : Program) (limit : ℕ) where
  -- ---- whether a state is clean

  pub is_clean : (bs : List Started) → Decided (IsClean p limit bs)
  is_clean bs = by_size (cases_lt limit (size_all (histories_at p limit bs)))
    where
      by_once : size_all (histories_at p limit bs) ≤ limit → (o : Option Twice) → ambiguous (histories_at p limit bs) ≡ o → Decided (IsClean p limit bs)
      by_once l None e = inl (record { size = l; once = once_of _ e })
      by_once l (Some t) e = inr (λ h. none_some (sym (of_once _ h.once) ∙ e))

      by_size : (limit < size_all (histories_at p limit bs)) ⊎ (size_all (histories_at p limit bs) ≤ limit) → Decided (IsClean p limit bs)
      by_size (inl l) = inr (λ h. let s = h.size in omega (arith, l, s))
      by_size (inr l) = by_once l _ refl

  module _ (bs : List Started) where
    -- ---- whether a block can be started

    abbrev IsFound : ℕ → Path → Type 0
    IsFound c q = (b : Started) × (find bs c q.0 ≡ Some b)

    -- it wasn't started, and its block causes were
    record IsFree (a : Placed) : Type 0 where
      fresh : find bs a.chare a.block.path.0 ≡ None
      causes : (q : Path) → Mem q a.block.after → IsFound a.chare q

    is_found : (c : ℕ) (q : Path) → Decided (IsFound c q)
    is_found c q = by_find (find bs c q.0) refl
      where
        by_find : (o : Option Started) → find bs c q.0 ≡ o → Decided (IsFound c q)
        by_find None e = inr (λ f. none_some (sym e ∙ f.1))
        by_find (Some b) e = inl (b, e)

    all_found : (c : ℕ) (qs : List Path) → Decided ((q : Path) → Mem q qs → IsFound c q)
    all_found c [] = inl (λ q m. absurd m)
    all_found c (r ∷ qs) = by_both (is_found c r) (all_found c qs)
      where
        each : IsFound c r → ((q : Path) → Mem q qs → IsFound c q) → (q : Path) → Mem q (r ∷ qs) → IsFound c q
        each f g q (inl e) = subst (IsFound c) (sym e) f
        each f g q (inr m) = g q m

        by_both : Decided (IsFound c r) → Decided ((q : Path) → Mem q qs → IsFound c q) → Decided ((q : Path) → Mem q (r ∷ qs) → IsFound c q)
        by_both (inl f) (inl g) = inl (each f g)
        by_both (inl f) (inr n) = inr (λ h. n (λ q m. h q (inr m)))
        by_both (inr n) d = inr (λ h. n (h r (inl refl)))

    is_free : (a : Placed) → Decided (IsFree a)
    is_free a = by_find (find bs a.chare a.block.path.0) refl (all_found a.chare a.block.after)
      where
        by_find : (o : Option Started) → find bs a.chare a.block.path.0 ≡ o → Decided ((q : Path) → Mem q a.block.after → IsFound a.chare q) → Decided (IsFree a)
        by_find None e (inl f) = inl (record { fresh = e; causes = f })
        by_find None e (inr n) = inr (λ h. n h.causes)
        by_find (Some b) e d = inr (λ h. none_some (sym h.fresh ∙ e))

    abbrev all_placed : List Placed
    all_placed = blocks_from 0 (histories_at p limit bs)

    free_enabled : (a : Placed) → Mem a all_placed → IsFree a → IsEnabled p limit bs a.chare a.block
    free_enabled a i h =
        let q = is_placed p limit (mail_to (messages bs)) p.chares 0 a i in
        record { chare = q.chare; block = q.block; fresh = h.fresh; causes = h.causes }

    abbrev at : ℕ → Block → Placed
    at c x = record { chare = c; block = x }

    enabled_in : (c : ℕ) (x : Block) → IsEnabled p limit bs c x → Mem (at c x) all_placed
    enabled_in c x e = place_in p limit (mail_to (messages bs)) p.chares 0 (at c x) e.chare e.block

    enabled_free : (c : ℕ) (x : Block) → IsEnabled p limit bs c x → IsFree (at c x)
    enabled_free c x e = record { fresh = e.fresh; causes = e.causes }

    -- two blocks that can be started, of one chare and at one path, are one
    one_enabled : (c d : ℕ) (x y : Block) → IsEnabled p limit bs c x → IsEnabled p limit bs d y → c ≡ d → x.path.0 ≡ y.path.0 → x ≡ y
    one_enabled c d x y e f q r =
        one_at _ (run_rising p limit d (mail_to (messages bs) d)) x y (subst (λ c. Mem x (history p limit c (mail_to (messages bs) c)).blocks) q e.block) f.block r

    -- ---- which block is started next

    module _ (m : Machine) where
      -- the order of (start, processor, ready tick, chare, path), from its end on
      abbrev ready_cmp : Placed → Placed → Ordering
      ready_cmp a b = ordering_then (nat_cmp (ready m bs a.chare a.block) (ready m bs b.chare b.block)) (placed_cmp a b)

      abbrev home_cmp : Placed → Placed → Ordering
      home_cmp a b = ordering_then (nat_cmp (m.home a.chare) (m.home b.chare)) (ready_cmp a b)

      abbrev next_cmp : Placed → Placed → Ordering
      next_cmp a b = ordering_then (nat_cmp (would_start m bs a.chare a.block) (would_start m bs b.chare b.block)) (home_cmp a b)

      next_total : IsTotalOrder next_cmp
      next_total =
          let by_ready : IsTotalOrder ready_cmp = then_total (on_total (λ (a : Placed). ready m bs a.chare a.block) nat_cmp_total) placed_total in
          let by_home : IsTotalOrder home_cmp = then_total (on_total (λ (a : Placed). m.home a.chare) nat_cmp_total) by_ready in
          then_total (on_total (λ (a : Placed). would_start m bs a.chare a.block) nat_cmp_total) by_home

      module _ (a b : Placed) where
        -- a comes before b on one processor, or is b
        abbrev IsFirst : Type 0
        IsFirst = ((a.chare ≡ b.chare) × (a.block ≡ b.block)) ⊎ Earlier m bs a.chare a.block b.chare b.block

        -- on one processor the start rises with the ready tick, so the one that is no greater comes first
        first_there : IsEnabled p limit bs a.chare a.block → IsEnabled p limit bs b.chare b.block → m.home b.chare ≡ m.home a.chare → is_gt (next_cmp a b) ≡ false → IsFirst
        first_there e f h u = by_start (number_first _ _ (home_cmp a b) u)
          where
            by_path : ready m bs a.chare a.block ≡ ready m bs b.chare b.block → a.chare ≡ b.chare → (slice_cmp nat_cmp a.block.path.0 b.block.path.0 ≡ Less) ⊎ (slice_cmp nat_cmp a.block.path.0 b.block.path.0 ≡ Equal) → IsFirst
            by_path r c (inl l) = inr (inr (r, inr (c, l)))
            by_path r c (inr s) = inl (c, one_enabled a.chare b.chare a.block b.block e f c (exact_bytes _ _ s))

            by_chare : ready m bs a.chare a.block ≡ ready m bs b.chare b.block → IsNoGreaterBy a.chare b.chare (slice_cmp nat_cmp a.block.path.0 b.block.path.0) → IsFirst
            by_chare r (inl l) = inr (inr (r, inl l))
            by_chare r (inr c) = by_path r c.0 (less_or_equal _ c.1)

            by_ready : IsNoGreaterBy (ready m bs a.chare a.block) (ready m bs b.chare b.block) (placed_cmp a b) → IsFirst
            by_ready (inl l) = inr (inl l)
            by_ready (inr r) = by_chare r.0 (number_first _ _ (slice_cmp nat_cmp a.block.path.0 b.block.path.0) r.1)

            by_home : IsNoGreaterBy (m.home a.chare) (m.home b.chare) (ready_cmp a b) → IsFirst
            by_home (inl l) = absurd (omega (arith, l, h))
            by_home (inr q) = by_ready (number_first _ _ (placed_cmp a b) q.1)

            by_start : IsNoGreaterBy (would_start m bs a.chare a.block) (would_start m bs b.chare b.block) (home_cmp a b) → IsFirst
            by_start (inl l) = let free_there = ap (free m bs) h in inr (inl (omega (arith, l, free_there)))
            by_start (inr s) = by_home (number_first _ _ (ready_cmp a b) s.1)

        -- a starts before b, or as early and on a processor up to q
        abbrev IsSooner : ℕ → Type 0
        IsSooner q = (would_start m bs a.chare a.block < would_start m bs b.chare b.block) ⊎ ((would_start m bs a.chare a.block ≡ would_start m bs b.chare b.block) × (m.home a.chare ≤ q))

        sooner : (q : ℕ) → m.home b.chare ≡ q → is_gt (next_cmp a b) ≡ false → IsSooner q
        sooner q h u = by_start (number_first _ _ (home_cmp a b) u)
          where
            by_home : IsNoGreaterBy (m.home a.chare) (m.home b.chare) (ready_cmp a b) → m.home a.chare ≤ q
            by_home (inl l) = omega (arith, l, h)
            by_home (inr r) = let e = r.0 in omega (arith, e, h)

            by_start : IsNoGreaterBy (would_start m bs a.chare a.block) (would_start m bs b.chare b.block) (home_cmp a b) → IsSooner q
            by_start (inl l) = inl l
            by_start (inr s) = inr (s.0, by_home (number_first _ _ (ready_cmp a b) s.1))

      abbrev start_now : Placed → Started
      start_now a = record { chare = a.chare; block = a.block; start = would_start m bs a.chare a.block }

      least_next : (l : Least next_cmp next_total IsFree all_placed) → IsNext m p limit bs (start_now l.item)
      least_next l = record {
        candidate = record {
          enabled = enabled;
          home = refl;
          least = λ d y f h. first_there l.item (at d y) enabled f h (up_to d y f);
        };
        start = refl;
        least = λ q d y k. sooner l.item (at d y) q k.home (up_to d y k.enabled);
      }
        where
          enabled : IsEnabled p limit bs l.item.chare l.item.block
          enabled = free_enabled l.item l.is_in l.holds

          up_to : (d : ℕ) (y : Block) → IsEnabled p limit bs d y → is_gt (next_cmp l.item (at d y)) ≡ false
          up_to d y f = l.least (at d y) (enabled_in d y f) (enabled_free d y f)

      -- a block is started next, or none can be started
      pub next_or_none : ((b : Started) × IsNext m p limit bs b) ⊎ NoneEnabled p limit bs
      next_or_none = by_least (least_or_none next_cmp next_total IsFree is_free all_placed)
        where
          by_least : Least next_cmp next_total IsFree all_placed ⊎ NoneHolds next_cmp next_total IsFree all_placed → ((b : Started) × IsNext m p limit bs b) ⊎ NoneEnabled p limit bs
          by_least (inl l) = inl (start_now l.item, least_next l)
          by_least (inr n) = inr (λ c x e. n (at c x) (enabled_in c x e) (enabled_free c x e))
