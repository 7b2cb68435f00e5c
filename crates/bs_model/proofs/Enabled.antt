-- The blocks that can start, and their ready ticks, as the book shows them.
use Rattle.std.proofs.Common.{◌≡◌, inl, inr, ℕ, ◌-◌, max, List, [], ◌∷◌, Option, Some, None, option_map, slice_get, refl, sym, ap, ap₂, subst, ◌∙◌}
use Rattle.std.proofs.lemmas.Option.{slice_get-map}
use Rattle.bs_tree.specs.declared.tree.Path.{Path}
use Rattle.bs_log.specs.declared.history.Origin.{Origin}
use Rattle.bs_log.specs.declared.history.Message.{Message}
use Rattle.bs_log.specs.declared.history.Block.{Block}
use Rattle.bs_log.specs.Lists.{Mem}
use Rattle.bs_machine.specs.declared.fitted.Fitted.{Fitted}
use Rattle.bs_semantics.specs.Run.{greatest}
use Rattle.bs_semantics.specs.Serial.{Started, find, end_found, arrival_found, arrival_of, ready}
use Rattle.bs_model.specs.declared.book.Book.{Book}
use Rattle.bs_model.specs.Book.{found}
use Rattle.bs_times.specs.Machine.{machine_of}
use Rattle.bs_model.specs.Ready.{later, ends_in, arrival_of_send, arrival_at, arrivals_in, ready_where, ready_unless, candidate_in}
use Rattle.bs_model.specs.State.{begun_of}

module _ (m : Fitted) (book : Book) (bs : List Started) (tie : (c : ℕ) (path : List ℕ) → found book c path ≡ option_map (begun_of m) (find bs c path)) where
  send_same : (c : ℕ) (b : Started) (o : Option Message) → arrival_of_send m c (begun_of m b) (option_map (λ s. s.sent) o) ≡ arrival_of (machine_of m) c b o
  unfolding machine_of
  send_same c b None = refl
  send_same c b (Some s) = refl

  arrival_same : (c : ℕ) (o : Origin) (f : Option Started) → arrival_at m c o.index (option_map (begun_of m) f) ≡ arrival_found (machine_of m) c o f
  arrival_same c o None = refl
  arrival_same c o (Some b) = ap (arrival_of_send m c (begun_of m b)) (slice_get-map (λ s. s.sent) b.block.sends (o.index - 1)) ∙ send_same c b (slice_get b.block.sends (o.index - 1))

  arrivals_same : (c : ℕ) (os : List Origin) → arrivals_in m book c os ≡ greatest (λ o. arrival_found (machine_of m) c o (find bs o.chare o.path.0)) os
  arrivals_same c [] = refl
  arrivals_same c (o ∷ os) = ap₂ (λ a b. max a b) (ap (arrival_at m c o.index) (tie o.chare o.path.0) ∙ arrival_same c o (find bs o.chare o.path.0)) (arrivals_same c os)

  abbrev AllStarted : ℕ → List Path → Type 0
  AllStarted c qs = (q : Path) → Mem q qs → (b : Started) × (find bs c q.0 ≡ Some b)

  abbrev ends_of : ℕ → List Path → ℕ
  ends_of c qs = greatest (λ q. end_found (machine_of m) (find bs c q.0)) qs

  later_same : (f : Option Started) (b : Started) (tick : ℕ) → f ≡ Some b → later (option_map (begun_of m) f) (Some tick) ≡ Some (max (end_found (machine_of m) f) tick)
  unfolding machine_of
  later_same None b tick e = absurd (cc)
  later_same (Some d) b tick e = refl

  ends_same : (c : ℕ) (qs : List Path) → AllStarted c qs → ends_in book c qs ≡ Some (ends_of c qs)
  ends_same c [] h = refl
  ends_same c (q ∷ qs) h =
      let s = h q (inl refl) in
      ap₂ later (tie c q.0) (ends_same c qs (λ r i. h r (inr i))) ∙ later_same (find bs c q.0) s.0 (ends_of c qs) s.1

  first_started : (c : ℕ) (q : Path) (f : Option Started) (o : Option ℕ) (tick : ℕ) → later (option_map (begun_of m) f) o ≡ Some tick → (b : Started) × (f ≡ Some b)
  first_started c q None o tick e = absurd (cc)
  first_started c q (Some b) o tick e = (b, refl)

  rest_there : (f : Option Started) (o : Option ℕ) (tick : ℕ) → later (option_map (begun_of m) f) o ≡ Some tick → (t : ℕ) × (o ≡ Some t)
  rest_there None o tick e = absurd (cc)
  rest_there (Some b) None tick e = absurd (cc)
  rest_there (Some b) (Some t) tick e = (t, refl)

  told_of : (c : ℕ) (q : Path) (o : Option ℕ) (tick : ℕ) → later (found book c q.0) o ≡ Some tick → later (option_map (begun_of m) (find bs c q.0)) o ≡ Some tick
  told_of c q o tick e = ap (λ f. later f o) (sym (tie c q.0)) ∙ e

  started_of : (c : ℕ) (q r : Path) (qs : List Path) (tick : ℕ) → later (found book c q.0) (ends_in book c qs) ≡ Some tick → ((t : ℕ) → ends_in book c qs ≡ Some t → AllStarted c qs) → Mem r (q ∷ qs) → (b : Started) × (find bs c r.0 ≡ Some b)
  started_of c q r qs tick e f (inl s) = subst (λ (r : Path). (b : Started) × (find bs c r.0 ≡ Some b)) (sym s) (first_started c q (find bs c q.0) (ends_in book c qs) tick (told_of c q (ends_in book c qs) tick e))
  started_of c q r qs tick e f (inr j) = let rest = rest_there (find bs c q.0) (ends_in book c qs) tick (told_of c q (ends_in book c qs) tick e) in f rest.0 rest.1 r j

  ends_started : (c : ℕ) (qs : List Path) (tick : ℕ) → ends_in book c qs ≡ Some tick → AllStarted c qs
  ends_started c [] tick e r i = absurd i
  ends_started c (q ∷ qs) tick e r i = started_of c q r qs tick e (ends_started c qs) i

  -- a block that isn't started, and whose block causes are, is a candidate at its ready tick
  pub is_candidate : (c : ℕ) (x : Block) → find bs c x.path.0 ≡ None → AllStarted c x.after → candidate_in m book c x ≡ Some (ready (machine_of m) bs c x)
  is_candidate c x fresh causes =
      ap₂ ready_unless (tie c x.path.0 ∙ ap (option_map (begun_of m)) fresh) (ap₂ ready_where (ends_same c x.after causes) (arrivals_same c x.mail))

  -- and no other block is one
  pub record CanStart (c : ℕ) (x : Block) (tick : ℕ) : Type 0 where
    pub fresh : find bs c x.path.0 ≡ None
    pub causes : (q : Path) → Mem q x.after → (b : Started) × (find bs c q.0 ≡ Some b)
    pub tick_is : tick ≡ ready (machine_of m) bs c x

  by_found : (f : Option Started) (o : Option ℕ) (tick : ℕ) → ready_unless (option_map (begun_of m) f) o ≡ Some tick → (f ≡ None) × (o ≡ Some tick)
  by_found None o tick e = (refl, e)
  by_found (Some b) o tick e = absurd (cc)

  by_ends : (o : Option ℕ) (arrivals tick : ℕ) → ready_where o arrivals ≡ Some tick → (t : ℕ) × (o ≡ Some t)
  by_ends None arrivals tick e = absurd (cc)
  by_ends (Some t) arrivals tick e = (t, refl)

  some_one : (a b : ℕ) → Some a ≡ Some b → a ≡ b
  some_one a b e = cc

  pub can_start : (c : ℕ) (x : Block) (tick : ℕ) → candidate_in m book c x ≡ Some tick → CanStart c x tick
  can_start c x tick e =
      let told : ready_unless (option_map (begun_of m) (find bs c x.path.0)) (ready_where (ends_in book c x.after) (arrivals_in m book c x.mail)) ≡ Some tick = ap (λ f. ready_unless f (ready_where (ends_in book c x.after) (arrivals_in m book c x.mail))) (sym (tie c x.path.0)) ∙ e in
      let parts = by_found (find bs c x.path.0) (ready_where (ends_in book c x.after) (arrivals_in m book c x.mail)) tick told in
      let ends = by_ends (ends_in book c x.after) (arrivals_in m book c x.mail) tick parts.1 in
      let causes = ends_started c x.after ends.0 ends.1 in
      record { fresh = parts.0; causes = causes; tick_is = some_one tick (ready (machine_of m) bs c x) (sym e ∙ is_candidate c x parts.0 causes) }
