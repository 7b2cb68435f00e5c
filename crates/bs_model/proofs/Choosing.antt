-- The least of the chares' best blocks is the next one of the serial machine model.
use Rattle.std.proofs.Common.{◌≡◌, ◌≤◌, ◌<◌, ◌⊎◌, inl, inr, ℕ, zero, suc, max, List, [], ◌∷◌, Option, Some, None, length, slice_get, get_or, option_map, refl, sym, ap, ap₂, subst, ◌∙◌, arith}
use Rattle.std.specs.Ordering.{nat_cmp}
use Rattle.std.specs.declared.cmp.Ordering.TheVariants.{Less}
use Rattle.std.specs.Cmp.Lexicographic.{slice_cmp}
use Rattle.std.proofs.lemmas.Bool.{cases_lt}
use Rattle.std.proofs.lemmas.Option.{slice_get_within}
use Rattle.bs_tree.specs.declared.tree.Program.{Program}
use Rattle.bs_log.specs.declared.history.Block.{Block}
use Rattle.bs_log.specs.declared.history.History.{History}
use Rattle.bs_log.specs.Lists.{Mem, InOrder}
use Rattle.bs_machine.specs.declared.fitted.Fitted.{Fitted}
use Rattle.bs_machine.specs.Fitted.{home_of}
use Rattle.bs_machine.proofs.Bounds.{has_bounds}
use Rattle.bs_semantics.specs.Run.{history}
use Rattle.bs_semantics.specs.Rounds.{chares, mail_to}
use Rattle.bs_semantics.specs.Serial.{Started, messages, find, ready, free, would_start, Earlier, IsEnabled, IsNext}
use Rattle.bs_semantics.proofs.Rising.{run_rising}
use Rattle.bs_model.specs.declared.candidates.Best.{Best}
use Rattle.bs_model.specs.declared.agenda.Next.{Next}
use Rattle.bs_model.specs.declared.state.State.{State}
use Rattle.bs_model.specs.Book.{at_key, found}
use Rattle.bs_times.specs.Machine.{machine_of}
use Rattle.bs_model.specs.Next.{IsBest, IsBestAt, IsLeastAt, IsUpTo, next_of, best_among}
use Rattle.bs_model.specs.Ready.{candidate_in}
use Rattle.bs_model.specs.State.{Follows, begun_of}
use Rattle.bs_model.proofs.Places.{count_numbers, mem_get, place_of, at_number, chare_in, below_of}
use Rattle.bs_model.proofs.Entries.{finds_same}
use Rattle.bs_model.proofs.Running.{differ}
use Rattle.bs_model.proofs.Enabled.{is_candidate, CanStart, can_start}

-- of a list in order, an item before another one
ordered_at : {A : Type 0} (R : A → A → Type 0) (xs : List A) (i j : ℕ) (x y : A) → InOrder R xs → slice_get xs i ≡ Some x → slice_get xs j ≡ Some y → i < j → R x y
ordered_at R [] i j x y h e f l = absurd (cc)
ordered_at R (z ∷ xs) zero zero x y h e f l = absurd (omega (arith, l))
ordered_at R (z ∷ xs) zero (suc j) x y h e f l = let same : z ≡ x = cc in subst (λ z. R z y) same (h.0 y (mem_get xs j y f))
ordered_at R (z ∷ xs) (suc i) zero x y h e f l = absurd (omega (arith, l))
ordered_at R (z ∷ xs) (suc i) (suc j) x y h e f l = ordered_at R xs i j x y h.1 e f (omega (arith, l))

module _ (p : Program) (limit : ℕ) (m : Fitted) (bs : List Started) (s : State) (f : Follows p limit m bs s) where
  pub tied : (c : ℕ) (path : List ℕ) → found s.book c path ≡ option_map (begun_of m) (find bs c path)
  tied c path = ap (λ es. at_key es (c ∷ path)) f.book ∙ finds_same m bs (differ p limit (machine_of m) bs f.started) c path

  abbrev pub history_of : ℕ → History
  history_of c = history p limit c (mail_to (messages bs) c)

  pub history_here : (c : ℕ) → c < p.chares → slice_get s.histories.items c ≡ Some (history_of c)
  history_here c l = ap (λ hs. slice_get hs c) f.histories ∙ at_number history_of p.chares 0 c l ∙ ap (λ d. Some (history_of d)) (omega arith)

  pub chares_here : length s.agenda.bests.items ≡ p.chares
  chares_here = f.bests.count ∙ (ap (λ hs. length hs) f.histories ∙ count_numbers history_of p.chares 0)

  abbrev pub test : ℕ → Block → Option ℕ
  test c = candidate_in m s.book c

  best_cases : (c : ℕ) (h : History) (o : Option (Option Best)) → best_among m s.book c (Some h) o → ((o ≡ Some None) × IsBest (test c) h.blocks None) ⊎ ((e : Best) × (o ≡ Some (Some e)) × IsBestAt (test c) h.blocks e)
  best_cases c h None b = absurd b
  best_cases c h (Some None) b = inl (refl, b)
  best_cases c h (Some (Some e)) b = inr (e, refl, b)

  -- the best block of a chare that has an enabled block
  pub record BestFor (d : ℕ) (y : Block) : Type 0 where
    pub best : Best
    pub is : slice_get s.agenda.bests.items d ≡ Some (Some best)
    pub at : IsBestAt (test d) (history_of d).blocks best
    pub first : (best.ready < ready (machine_of m) bs d y) ⊎ ((best.ready ≡ ready (machine_of m) bs d y) × ((at.block ≡ y) ⊎ (slice_cmp nat_cmp at.block.path.0 y.path.0 ≡ Less)))

  pub best_for : (d : ℕ) (y : Block) → IsEnabled p limit bs d y → BestFor d y
  best_for d y e = by_case (best_cases d (history_of d) (slice_get s.agenda.bests.items d) here)
    where
      lt : d < p.chares
      lt = let l = below_of 0 p.chares d e.chare in omega (arith, l)

      here : best_among m s.book d (Some (history_of d)) (slice_get s.agenda.bests.items d)
      here = subst (λ h. best_among m s.book d h (slice_get s.agenda.bests.items d)) (history_here d lt) (f.bests.each d (slice_get_within s.histories.items d (history_of d) (history_here d lt)))

      place : (i : ℕ) × (slice_get (history_of d).blocks i ≡ Some y)
      place = place_of (history_of d).blocks y e.block

      told : test d y ≡ Some (ready (machine_of m) bs d y)
      told = is_candidate m s.book bs tied d y e.fresh e.causes

      by_place : (b : Best) (h : IsBestAt (test d) (history_of d).blocks b) → (b.at < place.0) ⊎ (place.0 ≤ b.at) → b.at ≤ place.0 → (h.block ≡ y) ⊎ (slice_cmp nat_cmp h.block.path.0 y.path.0 ≡ Less)
      by_place b h (inl l) k = inr (ordered_at _ (history_of d).blocks b.at place.0 h.block y (run_rising p limit d (mail_to (messages bs) d)) h.is place.1 l)
      by_place b h (inr l) k =
          let at : b.at ≡ place.0 = omega (arith, l, k) in
          let two : slice_get (history_of d).blocks place.0 ≡ Some h.block = subst (λ i. slice_get (history_of d).blocks i ≡ Some h.block) at h.is in
          let one : slice_get (history_of d).blocks place.0 ≡ Some y = place.1 in
          inl (cc)

      first_of : (b : Best) (h : IsBestAt (test d) (history_of d).blocks b) → (b.ready < ready (machine_of m) bs d y) ⊎ ((b.ready ≡ ready (machine_of m) bs d y) × (b.at ≤ place.0))
          → (b.ready < ready (machine_of m) bs d y) ⊎ ((b.ready ≡ ready (machine_of m) bs d y) × ((h.block ≡ y) ⊎ (slice_cmp nat_cmp h.block.path.0 y.path.0 ≡ Less)))
      first_of b h (inl l) = inl l
      first_of b h (inr l) = inr (l.0, by_place b h (cases_lt b.at place.0) l.1)

      by_case : ((slice_get s.agenda.bests.items d ≡ Some None) × IsBest (test d) (history_of d).blocks None) ⊎ ((b : Best) × (slice_get s.agenda.bests.items d ≡ Some (Some b)) × IsBestAt (test d) (history_of d).blocks b) → BestFor d y
      by_case (inl h) = let none = h.1 place.0 y place.1 in let some = told in absurd (cc)
      by_case (inr h) = record { best = h.0; is = h.1; at = h.2; first = first_of h.0 h.2 (h.2.least place.0 y (ready (machine_of m) bs d y) place.1 told) }

  ready_low : (d : ℕ) (y : Block) (b : BestFor d y) → b.best.ready ≤ ready (machine_of m) bs d y
  ready_low d y b = by_case b.first
    where
      by_case : (b.best.ready < ready (machine_of m) bs d y) ⊎ ((b.best.ready ≡ ready (machine_of m) bs d y) × ((b.at.block ≡ y) ⊎ (slice_cmp nat_cmp b.at.block.path.0 y.path.0 ≡ Less))) → b.best.ready ≤ ready (machine_of m) bs d y
      by_case (inl l) = omega (arith, l)
      by_case (inr l) = let e = l.0 in omega (arith, e)

  module _ (n : Next) (least : IsLeastAt m s.agenda.ends.items s.agenda.bests.items n) (same : m.chares ≡ p.chares) where
    pub chare_low : n.chare < p.chares
    chare_low = let l = slice_get_within s.agenda.bests.items n.chare (Some n.best) least.is in let k = chares_here in omega (arith, l, k)

    by_cases : ((slice_get s.agenda.bests.items n.chare ≡ Some None) × IsBest (test n.chare) (history_of n.chare).blocks None) ⊎ ((e : Best) × (slice_get s.agenda.bests.items n.chare ≡ Some (Some e)) × IsBestAt (test n.chare) (history_of n.chare).blocks e) → IsBestAt (test n.chare) (history_of n.chare).blocks n.best
    by_cases (inl h) = let one = h.0 in let two = least.is in absurd (cc)
    by_cases (inr h) = let one = h.1 in let two = least.is in let e : h.0 ≡ n.best = cc in subst (IsBestAt (test n.chare) (history_of n.chare).blocks) e h.2

    pub its_best : IsBestAt (test n.chare) (history_of n.chare).blocks n.best
    its_best = by_cases (best_cases n.chare (history_of n.chare) (slice_get s.agenda.bests.items n.chare)
        (subst (λ h. best_among m s.book n.chare h (slice_get s.agenda.bests.items n.chare)) (history_here n.chare chare_low) (f.bests.each n.chare (slice_get_within s.histories.items n.chare (history_of n.chare) (history_here n.chare chare_low)))))

    abbrev pub started : Started
    started = record { chare = n.chare; block = its_best.block; start = n.start }

    pub starts : CanStart m s.book bs tied n.chare its_best.block n.best.ready
    starts = can_start m s.book bs tied n.chare its_best.block n.best.ready its_best.ready

    home_low : (c : ℕ) → c < p.chares → home_of m c < length s.agenda.ends.items
    home_low c l = let h = (has_bounds m).home c (omega (arith, l, same)) in let k = f.processors in omega (arith, h, k)

    free_is : (c : ℕ) → c < p.chares → get_or s.agenda.ends.items (home_of m c) 0 ≡ free (machine_of m) bs (home_of m c)
    free_is c l = f.ends (home_of m c) (let h = (has_bounds m).home c (omega (arith, l, same)) in h)

    pub start_is : n.start ≡ max n.best.ready (get_or s.agenda.ends.items (home_of m n.chare) 0)
    start_is = ap (λ (k : Next). k.start) least.next

    pub home_is : n.processor ≡ home_of m n.chare
    home_is = ap (λ (k : Next). k.processor) least.next

    pub its_start : n.start ≡ would_start (machine_of m) bs n.chare its_best.block
    unfolding machine_of
    its_start = start_is ∙ ap₂ (λ a b. max a b) starts.tick_is (free_is n.chare chare_low)

    pub enabled : IsEnabled p limit bs n.chare its_best.block
    enabled = record {
      chare = subst (λ c. Mem c (chares p)) (omega arith) (chare_in 0 p.chares n.chare chare_low);
      block = mem_get (history_of n.chare).blocks n.best.at its_best.block its_best.is;
      fresh = starts.fresh;
      causes = starts.causes;
    }

    -- two bests of one chare
    one_block : (d : ℕ) (y : Block) (b : BestFor d y) → n.chare ≡ d → its_best.block ≡ b.at.block
    one_block d y b e =
        let mine : slice_get s.agenda.bests.items d ≡ Some (Some n.best) = subst (λ c. slice_get s.agenda.bests.items c ≡ Some (Some n.best)) e least.is in
        let its = b.is in
        let best : b.best ≡ n.best = cc in
        let two : slice_get (history_of d).blocks n.best.at ≡ Some its_best.block = subst (λ c. slice_get (history_of c).blocks n.best.at ≡ Some its_best.block) e its_best.is in
        let one : slice_get (history_of d).blocks n.best.at ≡ Some b.at.block = ap (λ (e : Best). slice_get (history_of d).blocks e.at) (sym best) ∙ b.at.is in
        cc

    module _ (d : ℕ) (y : Block) (b : BestFor d y) where
      abbrev other : Next
      other = next_of m s.agenda.ends.items d b.best

      by_block : n.chare ≡ d → ready (machine_of m) bs n.chare its_best.block ≡ ready (machine_of m) bs d y → (b.at.block ≡ y) ⊎ (slice_cmp nat_cmp b.at.block.path.0 y.path.0 ≡ Less)
          → ((n.chare ≡ d) × (its_best.block ≡ y)) ⊎ Earlier (machine_of m) bs n.chare its_best.block d y
      by_block e r (inl k) = inl (e, one_block d y b e ∙ k)
      by_block e r (inr k) = inr (inr (r, inr (e, ap (λ (x : Block). slice_cmp nat_cmp x.path.0 y.path.0) (one_block d y b e) ∙ k)))

      by_chare : n.chare ≤ d → (n.chare < d) ⊎ (d ≤ n.chare) → ready (machine_of m) bs n.chare its_best.block ≡ ready (machine_of m) bs d y → (b.at.block ≡ y) ⊎ (slice_cmp nat_cmp b.at.block.path.0 y.path.0 ≡ Less)
          → ((n.chare ≡ d) × (its_best.block ≡ y)) ⊎ Earlier (machine_of m) bs n.chare its_best.block d y
      by_chare le (inl l) r k = inr (inr (r, inl l))
      by_chare le (inr l) r k = by_block (omega (arith, le, l)) r k

      by_first : n.best.ready ≡ b.best.ready → n.chare ≤ d → (b.best.ready < ready (machine_of m) bs d y) ⊎ ((b.best.ready ≡ ready (machine_of m) bs d y) × ((b.at.block ≡ y) ⊎ (slice_cmp nat_cmp b.at.block.path.0 y.path.0 ≡ Less)))
          → ((n.chare ≡ d) × (its_best.block ≡ y)) ⊎ Earlier (machine_of m) bs n.chare its_best.block d y
      by_first e le (inl l) = let t = starts.tick_is in inr (inl (omega (arith, e, l, t)))
      by_first e le (inr l) = by_chare le (cases_lt n.chare d) (sym starts.tick_is ∙ (e ∙ l.0)) l.1

      by_ready : (n.best.ready < b.best.ready) ⊎ ((n.best.ready ≡ b.best.ready) × (n.chare ≤ d)) → ((n.chare ≡ d) × (its_best.block ≡ y)) ⊎ Earlier (machine_of m) bs n.chare its_best.block d y
      by_ready (inl l) = let t = starts.tick_is in let low = ready_low d y b in inr (inl (omega (arith, l, t, low)))
      by_ready (inr l) = by_first l.0 l.1 b.first

      by_home : home_of m d ≡ home_of m n.chare → (n.processor < home_of m d) ⊎ ((n.processor ≡ home_of m d) × ((n.best.ready < b.best.ready) ⊎ ((n.best.ready ≡ b.best.ready) × (n.chare ≤ d))))
          → ((n.chare ≡ d) × (its_best.block ≡ y)) ⊎ Earlier (machine_of m) bs n.chare its_best.block d y
      by_home h (inl l) = let e = home_is in absurd (omega (arith, l, e, h))
      by_home h (inr l) = by_ready l.1

      by_start : home_of m d ≡ home_of m n.chare → IsUpTo n other → ((n.chare ≡ d) × (its_best.block ≡ y)) ⊎ Earlier (machine_of m) bs n.chare its_best.block d y
      by_start h (inl l) =
          let e = start_is in
          let t = starts.tick_is in
          let low = ready_low d y b in
          let last : get_or s.agenda.ends.items (home_of m d) 0 ≡ get_or s.agenda.ends.items (home_of m n.chare) 0 = ap (λ q. get_or s.agenda.ends.items q 0) h in
          inr (inl (omega (arith, l, e, t, low, last)))
      by_start h (inr l) = by_home h l.1

      home_up : (n.processor < home_of m d) ⊎ ((n.processor ≡ home_of m d) × ((n.best.ready < b.best.ready) ⊎ ((n.best.ready ≡ b.best.ready) × (n.chare ≤ d)))) → home_of m n.chare ≤ home_of m d
      home_up (inl l) = let e = home_is in omega (arith, l, e)
      home_up (inr l) = let e = home_is in let k = l.0 in omega (arith, k, e)

      would_high : d < p.chares → other.start ≤ would_start (machine_of m) bs d y
      unfolding machine_of
      would_high l = let low = ready_low d y b in let last = free_is d l in omega (arith, low, last)

      by_would : (n.start < would_start (machine_of m) bs d y) ⊎ (would_start (machine_of m) bs d y ≤ n.start) → n.start ≤ would_start (machine_of m) bs d y → home_of m n.chare ≤ home_of m d
          → (n.start < would_start (machine_of m) bs d y) ⊎ ((n.start ≡ would_start (machine_of m) bs d y) × (home_of m n.chare ≤ home_of m d))
      by_would (inl l) k h = inl l
      by_would (inr l) k h = inr (omega (arith, l, k), h)

      by_up : d < p.chares → IsUpTo n other → (n.start < would_start (machine_of m) bs d y) ⊎ ((n.start ≡ would_start (machine_of m) bs d y) × (home_of m n.chare ≤ home_of m d))
      by_up lt (inl l) = let k = would_high lt in inl (omega (arith, l, k))
      by_up lt (inr l) = let k = would_high lt in let e = l.0 in by_would (cases_lt n.start (would_start (machine_of m) bs d y)) (omega (arith, e, k)) (home_up l.1)

    pub is_next : IsNext (machine_of m) p limit bs started
    unfolding machine_of
    is_next = record {
      candidate = record {
        enabled = enabled;
        home = refl;
        least = λ d y e h. let b = best_for d y e in by_start d y b h (least.least d b.best b.is);
      };
      start = its_start;
      least = λ q d y c.
          let b = best_for d y c.enabled in
          let lt = below_of 0 p.chares d c.enabled.chare in
          subst (λ q. (n.start < would_start (machine_of m) bs d y) ⊎ ((n.start ≡ would_start (machine_of m) bs d y) × (home_of m n.chare ≤ q))) c.home (by_up d y b (omega (arith, lt)) (least.least d b.best b.is));
    }
