-- No block ends late: each ends within 2^50 ticks for each block that was started.
use Rattle.std.proofs.Common.{◌≡◌, ◌≤◌, inl, inr, ℕ, ◌+◌, ◌-◌, ◌*◌, ◌^◌, ◌==◌, Bool, true, false, if◌then◌else◌, List, [], ◌∷◌, Option, Some, None, length, slice_get, refl, sym, subst, arith}
use Rattle.bs_tree.specs.declared.tree.Program.{Program}
use Rattle.bs_log.specs.declared.history.Origin.{Origin}
use Rattle.bs_log.specs.declared.history.Message.{Message}
use Rattle.bs_log.specs.declared.history.Block.{Block}
use Rattle.bs_log.specs.Lists.{Mem}
use Rattle.bs_machine.specs.declared.fitted.Fitted.{Fitted}
use Rattle.bs_machine.specs.Fitted.{duration_of, home_of}
use Rattle.bs_machine.proofs.Bounds.{has_bounds}
use Rattle.bs_semantics.specs.Run.{greatest}
use Rattle.bs_semantics.specs.Rounds.{mail_to}
use Rattle.bs_semantics.specs.Proper.{IsProper}
use Rattle.bs_semantics.specs.Serial.{Started, messages, find, end_of, end_found, arrival_of, arrival_found, free, would_start}
use Rattle.bs_semantics.proofs.Find.{found_at}
use Rattle.bs_semantics.proofs.Proper.{run_proper}
use Rattle.bs_times.specs.Machine.{machine_of}
use Rattle.bs_model.specs.Started.{AreStarted, none_yet, one_more}
use Rattle.bs_model.proofs.Places.{mem_get}

greatest_low : {A : Type 0} (f : A → ℕ) (k : ℕ) (xs : List A) → ((x : A) → Mem x xs → f x ≤ k) → greatest f xs ≤ k
greatest_low f k [] h = omega arith
greatest_low f k (x ∷ xs) h =
    let one = h x (inl refl) in
    let more = greatest_low f k xs (λ y i. h y (inr i)) in
    omega (arith, one, more)

module _ (p : Program) (limit : ℕ) (m : Fitted) where
  -- a started block is proper, and ends at the latest at this tick
  pub record IsLow (last : ℕ) (b : Started) : Type 0 where
    pub proper : IsProper p b.block
    pub ends : b.start + duration_of m b.block.cost ≤ last

  end_low : (last : ℕ) (bs : List Started) (c : ℕ) (path : List ℕ) (f : Option Started) → find bs c path ≡ f → ((b : Started) → Mem b bs → IsLow last b) → end_found (machine_of m) f ≤ last
  unfolding machine_of
  end_low last bs c path None e h = omega arith
  end_low last bs c path (Some b) e h = (h b (found_at bs c path b e).is_in).ends

  send_low : (last c : ℕ) (b : Started) (o : Option Message) → ((s : Message) → o ≡ Some s → Mem s b.block.sends) → IsLow last b → arrival_of (machine_of m) c b o ≤ last + 2 ^ 49
  unfolding machine_of
  send_low last c b None i h = omega arith
  send_low last c b (Some s) i h =
      let bounds = has_bounds m in
      let send = h.proper.sends s (i s refl) in
      let cost = h.proper.most in
      let most = send.most in
      let duration = bounds.duration s.sent.offset send.least (omega (arith, most, cost)) in
      let latency = bounds.latency (home_of m b.chare) (home_of m c) s.sent.bytes send.bytes in
      let ends = h.ends in
      omega (arith, duration.1, latency.1, ends)

  arrival_low : (last : ℕ) (bs : List Started) (c : ℕ) (o : Origin) (f : Option Started) → find bs o.chare o.path.0 ≡ f → ((b : Started) → Mem b bs → IsLow last b) → arrival_found (machine_of m) c o f ≤ last + 2 ^ 49
  arrival_low last bs c o None e h = omega arith
  arrival_low last bs c o (Some b) e h = send_low last c b (slice_get b.block.sends (o.index - 1)) (λ s t. mem_get b.block.sends (o.index - 1) s t) (h b (found_at bs o.chare o.path.0 b e).is_in)

  free_if : (last : ℕ) (b : Started) (rest : ℕ) (t : Bool) → b.start + duration_of m b.block.cost ≤ last → rest ≤ last → (if t then end_of (machine_of m) b else rest) ≤ last
  unfolding machine_of
  free_if last b rest true h k = h
  free_if last b rest false h k = k

  free_low : (last q : ℕ) (bs : List Started) → ((b : Started) → Mem b bs → IsLow last b) → free (machine_of m) bs q ≤ last
  free_low last q [] h = omega arith
  free_low last q (b ∷ bs) h = free_if last b (free (machine_of m) bs q) ((machine_of m).home b.chare == q) (h b (inl refl)).ends (free_low last q bs (λ d i. h d (inr i)))

  pub start_low : (last : ℕ) (bs : List Started) (c : ℕ) (x : Block) → ((b : Started) → Mem b bs → IsLow last b) → would_start (machine_of m) bs c x ≤ last + 2 ^ 49
  start_low last bs c x h =
      let ends = greatest_low (λ q. end_found (machine_of m) (find bs c q.0)) last x.after (λ q i. end_low last bs c q.0 _ refl h) in
      let mail = greatest_low (λ o. arrival_found (machine_of m) c o (find bs o.chare o.path.0)) (last + 2 ^ 49) x.mail (λ o i. arrival_low last bs c o _ refl h) in
      let last_end = free_low last ((machine_of m).home c) bs h in
      omega (arith, ends, mail, last_end)

  low_more : (last k : ℕ) (b : Started) → last ≤ k → IsLow last b → IsLow k b
  low_more last k b l h = record { proper = h.proper; ends = let e = h.ends in omega (arith, e, l) }

  -- the starts and ends of the blocks that were started
  pub started_low : (bs : List Started) → AreStarted p limit (machine_of m) bs → (b : Started) → Mem b bs → IsLow (length bs * 2 ^ 50) b
  started_low _ none_yet b i = absurd i
  started_low _ (one_more bs d s next to) b i = by_place i (started_low bs s)
    where
      proper : IsProper p d.block
      proper = run_proper p limit d.chare (mail_to (messages bs) d.chare) d.block next.candidate.enabled.block

      by_place : Mem b (d ∷ bs) → ((b : Started) → Mem b bs → IsLow (length bs * 2 ^ 50) b) → IsLow (length (d ∷ bs) * 2 ^ 50) b
      by_place (inl e) h =
          let low = start_low (length bs * 2 ^ 50) bs d.chare d.block h in
          let start = next.start in
          let duration = (has_bounds m).duration d.block.cost proper.least proper.most in
          subst (IsLow (length (d ∷ bs) * 2 ^ 50)) (sym e) (record { proper = proper; ends = omega (arith, low, start, duration.1) })
      by_place (inr j) h = low_more (length bs * 2 ^ 50) (length (d ∷ bs) * 2 ^ 50) b (omega arith) (h b j)
