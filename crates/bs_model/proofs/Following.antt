-- The state after the next block was started.
use Rattle.std.proofs.Common.{◌≡◌, ◌≤◌, ◌<◌, inl, inr, ℕ, zero, suc, ◌+◌, ◌*◌, ◌^◌, ◌==◌, Bool, true, false, if◌then◌else◌, List, [], ◌∷◌, Option, Some, None, length, slice_get, slice_set, get_or, map, option_map, refl, sym, ap, subst, ◌∙◌, arith, eqb-true}
use Rattle.std.proofs.lemmas.Bool.{eqb-false}
use Rattle.std.proofs.lemmas.List.{length-set, get_or-set_same, get_or-set_other}
use Rattle.std.proofs.lemmas.Option.{slice_get_within, slice_get-get_or}
use Rattle.std.specs.BTreeSet.{insert_key}
use Rattle.std.specs.Ordering.{nat_cmp}
use Rattle.bs_tree.specs.declared.tree.Program.{Program}
use Rattle.bs_log.specs.declared.history.Message.{Message}
use Rattle.bs_log.specs.declared.history.Sent.{Sent}
use Rattle.bs_log.specs.declared.history.Block.{Block}
use Rattle.bs_log.specs.declared.history.History.{History}
use Rattle.bs_log.specs.Lists.{Mem}
use Rattle.bs_log.specs.Messages.{AreFor}
use Rattle.bs_machine.specs.declared.fitted.Fitted.{Fitted}
use Rattle.bs_machine.specs.Fitted.{home_of, processors_of, duration_of}
use Rattle.bs_machine.proofs.Bounds.{has_bounds}
use Rattle.bs_semantics.specs.Run.{history, put_all}
use Rattle.bs_semantics.specs.Rounds.{mail_to}
use Rattle.bs_semantics.specs.Proper.{IsProper}
use Rattle.bs_semantics.specs.Serial.{Started, IsNext, messages, histories_at, find, free, started_cmp}
use Rattle.bs_semantics.proofs.Find.{found_at}
use Rattle.bs_semantics.proofs.Proper.{run_proper}
use Rattle.bs_model.specs.declared.book.Begun.{Begun}
use Rattle.bs_model.specs.declared.book.Book.{Book}
use Rattle.bs_model.specs.declared.agenda.Next.{Next}
use Rattle.bs_model.specs.declared.state.State.{State}
use Rattle.bs_model.specs.Agenda.{IsAgenda}
use Rattle.bs_model.specs.Book.{at_key, found, keyed, put_key}
use Rattle.bs_times.specs.Machine.{machine_of}
use Rattle.bs_model.specs.But.{HoldsBut}
use Rattle.bs_model.specs.Mails.{mail_at, history_at, AreDelivered, AreHistories, AreKept, AreShallow, AreShort, CanDeliver, IsSize}
use Rattle.bs_model.specs.Next.{AreBest, IsLeastAt, best_among, best_at}
use Rattle.bs_model.specs.Ready.{AreBooked, IsBooked, IsTimeable}
use Rattle.bs_model.specs.Started.{AreStarted}
use Rattle.bs_model.specs.State.{Follows, begun_of, entry_of}
use Rattle.bs_model.specs.Stop.{HasCleanRound}
use Rattle.bs_model.proofs.But.{but_one}
use Rattle.bs_model.proofs.Choosing.{tied, history_here, its_best, started, is_next, chare_low, home_is}
use Rattle.bs_model.proofs.Early.{start_low, started_low}
use Rattle.bs_model.proofs.Entries.{key_of, entries_more, finds_same}
use Rattle.bs_model.proofs.Places.{below_of}
use Rattle.bs_model.proofs.Running.{are_blocks, differ}
use Rattle.bs_model.proofs.Staying.{best_stays}
use Rattle.bs_model.proofs.Stepping.{targets, more_started, mails_now, shallow, histories_are, histories_kept, can_deliver, short}

pub each_of : {A B : Type 0} (P : B → Type 0) (f : A → B) (xs : List A) → ((x : A) → Mem x xs → P (f x)) → (k : ℕ) (d : B) → k < length (map f xs) → P (get_or (map f xs) k d)
each_of P f [] h k d l = absurd (omega (arith, l))
each_of P f (x ∷ xs) h zero d l = h x (inl refl)
each_of P f (x ∷ xs) h (suc k) d l = each_of P f xs (λ y i. h y (inr i)) k d (omega (arith, l))

timeable : (p : Program) (x : Block) → IsProper p x → (k : ℕ) (d : Sent) → k < length (map (λ (s : Message). s.sent) x.sends) → IsTimeable (get_or (map (λ (s : Message). s.sent) x.sends) k d)
timeable p x h = each_of IsTimeable (λ (s : Message). s.sent) x.sends (λ s i.
    let send = h.sends s i in
    let cost = h.most in
    let most = send.most in
    record { least = send.least; most = omega (arith, cost, most); bytes = send.bytes })

the_item : {A : Type 0} (x y : A) → Some x ≡ Some y → x ≡ y
the_item x y e = cc

module _ (p : Program) (limit : ℕ) (m : Fitted) (small : limit ≤ 262144) (same : m.chares ≡ p.chares) where
  -- the blocks that were started lie early on processors
  is_booked : (bs : List Started) → AreStarted p limit (machine_of m) bs → length bs ≤ 262145 → (b : Started) → Mem b bs → IsBooked m (begun_of m b)
  is_booked bs r few b i =
      let low = started_low p limit m bs r b i in
      let ends = low.ends in
      let chare = below_of 0 p.chares b.chare (are_blocks p limit (machine_of m) bs r b i).0 in
      record {
        processor = (has_bounds m).home b.chare (omega (arith, chare, same));
        start = omega (arith, ends, few);
        sends = timeable p b.block low.proper;
      }

  by_found : (bs : List Started) → AreStarted p limit (machine_of m) bs → length bs ≤ 262145 → (c : ℕ) (path : List ℕ) (g : Begun) (o : Option Started) → find bs c path ≡ o → option_map (begun_of m) o ≡ Some g → IsBooked m g
  by_found bs r few c path g None e f = absurd (cc)
  by_found bs r few c path g (Some b) e f = let is : begun_of m b ≡ g = cc in subst (IsBooked m) is (is_booked bs r few b (found_at bs c path b e).is_in)

  pub are_booked : (bs : List Started) → AreStarted p limit (machine_of m) bs → length bs ≤ 262145 → (book : Book) → ((c : ℕ) (path : List ℕ) → found book c path ≡ option_map (begun_of m) (find bs c path)) → AreBooked m book
  are_booked bs r few book tie c path g e = by_found bs r few c path g (find bs c path) refl (sym (tie c path) ∙ e)

  module _ (bs : List Started) (s : State) (f : Follows p limit m bs s) (few : length bs ≤ limit) (nx : Next) (least : IsLeastAt m s.agenda.ends.items s.agenda.bests.items nx) where
    abbrev pub now : Started
    now = started p limit m bs s f nx least same

    pub next_now : IsNext (machine_of m) p limit bs now
    next_now = is_next p limit m bs s f nx least same

    -- the block that the code takes
    pub block_is : (h : History) (x : Block) → h ≡ get_or s.histories.items nx.chare h → slice_get h.blocks nx.best.at ≡ Some x → x ≡ now.block
    block_is h x e at =
        let lt = chare_low p limit m bs s f nx least same in
        let here = history_here p limit m bs s f nx.chare lt in
        let one = slice_get-get_or s.histories.items nx.chare h (slice_get_within s.histories.items nx.chare _ here) in
        let same_history : h ≡ history p limit nx.chare (mail_to (messages bs) nx.chare) = e ∙ the_item _ _ (sym one ∙ here) in
        the_item _ _ (sym at ∙ (ap (λ (h : History). slice_get h.blocks nx.best.at) same_history ∙ (its_best p limit m bs s f nx least same).is))

    pub place_low : (h : History) → h ≡ get_or s.histories.items nx.chare h → nx.best.at < length h.blocks
    place_low h e =
        let lt = chare_low p limit m bs s f nx least same in
        let here = history_here p limit m bs s f nx.chare lt in
        let one = slice_get-get_or s.histories.items nx.chare h (slice_get_within s.histories.items nx.chare _ here) in
        let same_history : h ≡ history p limit nx.chare (mail_to (messages bs) nx.chare) = e ∙ the_item _ _ (sym one ∙ here) in
        subst (λ (h : History). nx.best.at < length h.blocks) (sym same_history) (slice_get_within _ nx.best.at now.block (its_best p limit m bs s f nx least same).is)

    pub cost_now : (1 ≤ now.block.cost) × (now.block.cost ≤ 2 ^ 32)
    cost_now = let h = run_proper p limit now.chare (mail_to (messages bs) now.chare) now.block next_now.candidate.enabled.block in (h.least, h.most)

    pub start_early : nx.start < 2 ^ 100
    start_early =
        let low = start_low p limit m (length bs * 2 ^ 50) bs now.chare now.block (started_low p limit m bs f.started) in
        let start = next_now.start in
        omega (arith, low, start, few, small)

    pub processor_low : nx.processor < length s.agenda.ends.items
    processor_low =
        let lt = chare_low p limit m bs s f nx least same in
        let home = home_is p limit m bs s f nx least same in
        let low = (has_bounds m).home nx.chare (omega (arith, lt, same)) in
        let k = f.processors in
        omega (arith, home, low, k)

    pub some_chare : 1 ≤ p.chares
    some_chare = let l = chare_low p limit m bs s f nx least same in omega (arith, l)

    pub targets_now : AreFor (length s.mails.items) now.block.sends
    targets_now = targets p limit m bs f.started now next_now s.mails.items f.chares some_chare f.mails

    -- where the verdict is Clean, its messages can be delivered, and then no history is too long
    pub delivers_now : HasCleanRound p limit → CanDeliver limit s.mails.items now.block.sends
    delivers_now h = can_deliver p limit m bs f.started now next_now s.mails.items f.chares some_chare f.mails h.0 h.1

    pub short_now : (mails : List (List Message)) → AreDelivered s.mails.items now.block.sends mails → HasCleanRound p limit → AreShort p limit mails
    short_now mails d h = short p limit m bs f.started now next_now s.mails.items f.chares some_chare f.mails h.0 h.1 mails d

    pub histories_now : (mails : List (List Message)) (heard : List ℕ) → AreDelivered s.mails.items now.block.sends mails → AreKept s.mails.items heard mails → HoldsBut heard (length s.mails.items) (λ c. slice_get s.histories.items c ≡ history_at p limit mails c)
    histories_now mails heard d kept = histories_kept p limit m bs f.started now next_now s.mails.items f.chares some_chare f.mails mails d s.histories.items heard f.histories kept

    module _ (can : CanDeliver limit s.mails.items now.block.sends) where
      pub shallow_now : (mails : List (List Message)) → AreDelivered s.mails.items now.block.sends mails → AreShallow mails
      shallow_now mails d = shallow p limit m bs f.started now next_now s.mails.items f.chares some_chare f.mails mails d small can

      pub started_now : AreStarted p limit (machine_of m) (now ∷ bs)
      started_now = more_started p limit m bs f.started now next_now s.mails.items f.chares some_chare f.mails can

      module _ (book : Book) (book_is : keyed book ≡ put_key (key_of now) (begun_of m now) (keyed s.book)) where
        pub entries_now : keyed book ≡ map (entry_of m) (put_all (started_cmp (machine_of m)) (now ∷ bs) [])
        entries_now = book_is ∙ (ap (put_key (key_of now) (begun_of m now)) f.book ∙ sym (entries_more m now bs (differ p limit (machine_of m) (now ∷ bs) started_now).0))

        tied_now : (c : ℕ) (path : List ℕ) → found book c path ≡ option_map (begun_of m) (find (now ∷ bs) c path)
        tied_now c path = ap (λ es. at_key es (c ∷ path)) entries_now ∙ finds_same m (now ∷ bs) (differ p limit (machine_of m) (now ∷ bs) started_now) c path

        pub booked_now : AreBooked m book
        booked_now = are_booked (now ∷ bs) started_now (omega (arith, few, small)) book tied_now

        module _ (mails : List (List Message)) (heard : List ℕ) (d : AreDelivered s.mails.items now.block.sends mails) (kept : AreKept s.mails.items heard mails) (hs : List History) (are : AreHistories p limit mails hs) where
          pub mails_are : (c : ℕ) → c < p.chares → mail_at mails c ≡ mail_to (messages (now ∷ bs)) c
          mails_are = mails_now p limit m bs f.started now next_now s.mails.items f.chares some_chare f.mails mails d

          mails_count : length mails ≡ p.chares
          mails_count = d.count ∙ f.chares

          its_histories : hs ≡ histories_at p limit (now ∷ bs)
          its_histories = histories_are p limit m bs f.started now next_now s.mails.items f.chares some_chare f.mails mails d hs are

          -- a chare that got no message, and isn't that of the block
          other_best : (c : ℕ) → c < length s.mails.items → mail_at mails c ≡ mail_at s.mails.items c → (now.chare ≡ c → ⊥) → best_at m book hs s.agenda.bests.items c
          other_best c within e other =
              let chares = f.chares in
              let lt : c < p.chares = omega (arith, within, chares) in
              let k = mails_count in
              let fresh = next_now.candidate.enabled.fresh in
              let mail = e ∙ f.mails c lt in
              let here = are.each c (omega (arith, lt, k)) ∙ ap (λ mail. Some (history p limit c mail)) mail in
              let there = history_here p limit m bs s f c lt in
              let old = subst (λ h. best_among m s.book c h (slice_get s.agenda.bests.items c)) there (f.bests.each c (slice_get_within s.histories.items c _ there)) in
              subst (λ h. best_among m book c h (slice_get s.agenda.bests.items c)) (sym here)
              (best_stays m now bs s.book book (tied p limit m bs s f) tied_now p limit f.started fresh c other (slice_get s.agenda.bests.items c) old)

          pub bests_kept : HoldsBut (insert_key nat_cmp heard now.chare) (length hs) (best_at m book hs s.agenda.bests.items)
          bests_kept =
              let lt = chare_low p limit m bs s f nx least same in
              let chares = f.chares in
              subst (λ n. HoldsBut (insert_key nat_cmp heard now.chare) n (best_at m book hs s.agenda.bests.items)) (sym (are.count ∙ d.count))
              (but_one heard (length s.mails.items) now.chare _ _ (omega (arith, lt, chares)) kept (λ c l other e. other_best c l e other))

          ends_if : (q : ℕ) (t : Bool) → q < processors_of m → (home_of m now.chare == q) ≡ t → get_or (slice_set s.agenda.ends.items (home_of m now.chare) (now.start + duration_of m now.block.cost)) q 0 ≡ (if t then now.start + duration_of m now.block.cost else free (machine_of m) bs q)
          ends_if q true l e =
              let same_home = eqb-true _ _ e in
              let k = f.processors in
              subst (λ q. get_or (slice_set s.agenda.ends.items (home_of m now.chare) (now.start + duration_of m now.block.cost)) q 0 ≡ now.start + duration_of m now.block.cost) same_home
              (get_or-set_same s.agenda.ends.items (home_of m now.chare) (now.start + duration_of m now.block.cost) 0 (omega (arith, l, same_home, k)))
          ends_if q false l e = get_or-set_other s.agenda.ends.items (home_of m now.chare) q (now.start + duration_of m now.block.cost) 0 (λ h. eqb-false _ _ e (sym h)) ∙ f.ends q l

          ends_now : (q : ℕ) → q < processors_of m → get_or (slice_set s.agenda.ends.items (home_of m now.chare) (now.start + duration_of m now.block.cost)) q 0 ≡ free (machine_of m) (now ∷ bs) q
          unfolding machine_of
          ends_now q l = ends_if q (home_of m now.chare == q) l refl

          pub follows_now : (t : State) → t.book ≡ book → t.agenda.ends.items ≡ slice_set s.agenda.ends.items (home_of m now.chare) (now.start + duration_of m now.block.cost) → t.mails.items ≡ mails → t.histories.items ≡ hs → IsSize limit hs t.size → AreBest m book hs t.agenda.bests.items → IsAgenda m t.agenda → Follows p limit m (now ∷ bs) t
          follows_now t same_book same_ends same_mails same_histories size bests agenda = record {
            started = started_now;
            book = ap keyed same_book ∙ entries_now;
            processors = ap (λ xs. length xs) same_ends ∙ (length-set s.agenda.ends.items (home_of m now.chare) (now.start + duration_of m now.block.cost) ∙ f.processors);
            ends = λ q l. ap (λ xs. get_or xs q 0) same_ends ∙ ends_now q l;
            chares = ap (λ xs. length xs) same_mails ∙ mails_count;
            mails = λ c l. ap (λ xs. mail_at xs c) same_mails ∙ mails_are c l;
            histories = same_histories ∙ its_histories;
            size = subst (λ hs. IsSize limit hs t.size) (sym same_histories) size;
            bests = subst (λ b. AreBest m b t.histories.items t.agenda.bests.items) (sym same_book) (subst (λ hs. AreBest m book hs t.agenda.bests.items) (sym same_histories) bests);
            agenda = agenda;
          }
