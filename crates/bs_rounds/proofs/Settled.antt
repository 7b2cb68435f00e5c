-- What a round comes to once its messages are posted.
use Rattle.std.proofs.Common.{◌≡◌, ◌⊎◌, ◌<◌, ◌≤◌, inl, inr, ℕ, zero, suc, ◌+◌, Bool, true, false, List, [], ◌∷◌, Option, None, Some, refl, sym, ap, ap₂, subst, ◌∙◌, length, arith, le_refl}
use Rattle.std.proofs.lemmas.Bool.{cases_lt}
use Rattle.bs_tree.specs.declared.tree.Program.{Program}
use Rattle.bs_log.specs.declared.history.Key.{Key}
use Rattle.bs_log.specs.declared.history.Message.{Message}
use Rattle.bs_log.specs.declared.history.History.{History}
use Rattle.bs_log.specs.Size.{size_all}
use Rattle.bs_log.specs.Lists.{Mem, Apart, Each, InOrder}
use Rattle.bs_log.specs.Sound.{Once}
use Rattle.bs_log.specs.Messages.{one_key, one_asked, sends_of, sent}
use Rattle.bs_log.specs.Histories.{history_at}
use Rattle.bs_semantics.specs.Run.{Lookup, history}
use Rattle.bs_semantics.specs.Rounds.{SameMail, Undecided, mail_to, mail, round, chares}
use Rattle.bs_semantics.proofs.Options.{none_some, some_same}
use Rattle.bs_semantics.proofs.Subsequences.{member}
use Rattle.bs_semantics.proofs.Mails.{found, hits, hits_at, is_for_is, one_lookup}
use Rattle.bs_semantics.proofs.Verdicts.{mail_grows}
use Rattle.bs_rounds.specs.Asking.{AsksTwice}
use Rattle.bs_rounds.specs.Posting.{flag, held, sent_by, IsOneOf, IsKnown, HasNews, ArePosted, Clash}
use Rattle.bs_rounds.specs.State.{IsStale, IsAtRound, IsPassed}
use Rattle.bs_rounds.proofs.OneOrigin.{Differ, origins_differ, one_place}
use Rattle.bs_rounds.proofs.Among.{IsStaleSend, by_marked, marked_or_stale, each_of_all, at_each, sends_at}
use Rattle.bs_rounds.proofs.Begun.{round_at, round_count}

false_or : (t : Bool) → (t ≡ true → ⊥) → t ≡ false
false_or true h = absurd (h refl)
false_or false h = refl

true_or_false : (t : Bool) → (t ≡ true) ⊎ (t ≡ false)
true_or_false true = inl refl
true_or_false false = inr refl

no_longer : {A : Type 0} (t : Bool) → t ≡ true → t ≡ false → A
no_longer t e q = absurd (cc)

apart_of : (ms : List Message) → InOrder Differ ms → ((a b : Message) → Mem a ms → Mem b ms → one_key a b ≡ true → a ≡ b) → Apart one_key ms
apart_of [] h f = tt
apart_of (x ∷ xs) h f = ((λ y i. false_or (one_key x y) (λ t. h.0 y i (ap (λ m. m.origin) (f x y (inl refl) (inr i) t)))), apart_of xs h.1 (λ a b i j. f a b (inr i) (inr j)))

-- one undecided round more
pub one_more : (p : Program) (limit n : ℕ) → ((m : ℕ) → m < n → Undecided p limit m) → Undecided p limit n → (m : ℕ) → m < suc n → Undecided p limit m
one_more p limit n h u m l = by_order (cases_lt m n)
  where
    by_order : (m < n) ⊎ (n ≤ m) → Undecided p limit m
    by_order (inl i) = h m i
    by_order (inr i) = let e : n ≡ m = omega (arith, i, l) in subst (Undecided p limit) e u

module _ (p : Program) (limit n : ℕ) (mails : List (List Message)) (marks : List Bool) (old : List History) (at : IsAtRound p limit n mails marks old) where
  abbrev now : List Message
  now = sent (round p limit n)

  -- unmarked chares are in the round as they were
  stale : (c : ℕ) → c < p.chares → flag marks c ≡ false → IsStale p limit mails (round p limit n) c
  stale c l u =
      let s = at.stale c l u in
      let same : history_at (round p limit n) c ≡ history p limit c (held mails c) = round_at p limit n c l ∙ ap (history p limit c) (sym (at.mail_is c)) in
      let one : history_at old c ≡ history_at (round p limit n) c = s.taken ∙ sym same in
      record {
        taken = same;
        asked = subst (λ (h : History). Apart one_asked h.asked) one s.asked;
        posted = λ m i. s.posted m (subst (λ (h : History). Mem m (sends_of h.blocks)) (sym one) i);
      }

  differ : InOrder Differ now
  differ = origins_differ p limit (mail_to (mail p limit n)) p.chares 0

  -- what was held is sent in the round
  held_is_sent : (c : ℕ) (k : Key) (m : Message) → held mails c k ≡ Some m → Mem m now × (m.sent.to ≡ c) × (m.sent.key ≡ k)
  held_is_sent c k m e =
      let f = found (mail p limit n) c k m (ap (λ l. l k) (sym (at.mail_is c)) ∙ e) in
      let is = is_for_is c k m f.1 in
      (member m _ _ (mail_grows p limit n at.before) f.0, is.0, is.1)

  came : (c : ℕ) (k : Key) (m : Message) → (held mails c k ≡ Some m) ⊎ IsOneOf (sent_by marks (round p limit n)) c k m → Mem m now × (m.sent.to ≡ c) × (m.sent.key ≡ k)
  came c k m (inl e) = held_is_sent c k m e
  came c k m (inr o) = (by_marked marks (round p limit n) m o.member, o.to, o.key)

  pub clash_twice : Clash (sent_by marks (round p limit n)) (held mails) → Once (round p limit n) → ⊥
  clash_twice k o =
      let one = came k.second.sent.to k.second.sent.key k.first k.is_first in
      let two = by_marked marks (round p limit n) k.second k.is_second in
      let first = ap₂ (mail_to now) (sym one.1) (sym one.2) ∙ hits now o.sent k.first one.0 in
      let second = hits now o.sent k.second two in
      k.differ (ap (λ m. m.origin) (some_same (sym first ∙ second)))

  pub asked_twice : AsksTwice (round p limit n) → Once (round p limit n) → ⊥
  asked_twice k o = k.twice (at_each (λ h. Apart one_asked h.asked) (round p limit n) o.asked k.chare k.within)

  module _ (asked : (c : ℕ) → c < length (round p limit n) → flag marks c ≡ true → Apart one_asked (history_at (round p limit n) c).asked)
      (blank : ℕ → Bool) (unmarked : (c : ℕ) → blank c ≡ false)
      (mails' : List (List Message)) (marks' : List Bool)
      (posts : ArePosted (sent_by marks (round p limit n)) (held mails) blank (held mails') (flag marks'))
      (size : size_all (round p limit n) ≤ limit) (mails_count : length mails' ≡ length mails) (marks_count : length marks' ≡ length mails) where
    within : (c : ℕ) → c < length (round p limit n) → c < p.chares
    within c l = subst (λ j. c < j) (round_count p limit n) l

    all_asked : (c : ℕ) → c < length (round p limit n) → Apart one_asked (history_at (round p limit n) c).asked
    all_asked c l = by_mark (true_or_false (flag marks c))
      where
        by_mark : (flag marks c ≡ true) ⊎ (flag marks c ≡ false) → Apart one_asked (history_at (round p limit n) c).asked
        by_mark (inl t) = asked c l t
        by_mark (inr u) = (stale c (within c l) u).asked

    from : (c : ℕ) (k : Key) (m : Message) → held mails' c k ≡ Some m → Mem m now × (m.sent.to ≡ c) × (m.sent.key ≡ k)
    from c k m e = came c k m (posts.from c k m e)

    known : (m : Message) → Mem m now → IsKnown (held mails') m → held mails' m.sent.to m.sent.key ≡ Some m
    known m i k =
        let one = from m.sent.to m.sent.key k.message k.is_held in
        k.is_held ∙ ap Some (one_place now differ k.message m one.0 i k.origin)

    posted : (m : Message) → Mem m now → held mails' m.sent.to m.sent.key ≡ Some m
    posted m i = by_side (marked_or_stale marks (round p limit n) (at.marks_count ∙ sym (round_count p limit n)) m i)
      where
        by_side : Mem m (sent_by marks (round p limit n)) ⊎ IsStaleSend marks (round p limit n) m → held mails' m.sent.to m.sent.key ≡ Some m
        by_side (inl j) = known m i (posts.known m j)
        by_side (inr s) = posts.stays m.sent.to m.sent.key m ((stale s.chare (within s.chare s.within) s.unmarked).posted m s.sends)

    apart : Apart one_key now
    apart = apart_of now differ (λ a b i j t.
        let is = is_for_is b.sent.to b.sent.key a t in
        some_same (sym (posted a i) ∙ (ap₂ (held mails') is.0 is.1 ∙ posted b j)))

    once : Once (round p limit n)
    once = record { sent = apart; asked = each_of_all (λ h. Apart one_asked h.asked) (round p limit n) all_asked }

    held_now : (c : ℕ) → held mails' c ≡ mail_to now c
    held_now c = one_lookup (held mails' c) (mail_to now c) there back
      where
        there : (k : Key) (m : Message) → held mails' c k ≡ Some m → mail_to now c k ≡ Some m
        there k m e = let f = from c k m e in ap₂ (mail_to now) (sym f.1) (sym f.2) ∙ hits now apart m f.0

        back : (k : Key) (m : Message) → mail_to now c k ≡ Some m → held mails' c k ≡ Some m
        back k m e =
            let f = found now c k m e in
            let is = is_for_is c k m f.1 in
            ap₂ (held mails') (sym is.0) (sym is.1) ∙ posted m f.0

    no_news : ((c : ℕ) → flag marks' c ≡ false) → SameMail (mail p limit (suc n)) (mail p limit n)
    no_news u c k = ap (λ l. l k) (sym (held_now c) ∙ (sym (posts.same c (u c)) ∙ at.mail_is c))

    news : (c : ℕ) → flag marks' c ≡ true → SameMail (mail p limit (suc n)) (mail p limit n) → ⊥
    news c t same = by_side (posts.news c t)
      where
        by_side : (blank c ≡ true) ⊎ HasNews (held mails c) (held mails' c) → ⊥
        by_side (inl e) = no_longer (blank c) e (unmarked c)
        by_side (inr h) = none_some (sym h.was ∙ (ap (λ l. l h.key) (at.mail_is c) ∙ (sym (same c h.key) ∙ (ap (λ l. l h.key) (sym (held_now c)) ∙ h.is))))

    still : (c : ℕ) → c < p.chares → flag marks' c ≡ false → IsStale p limit mails' (round p limit n) c
    still c l u =
        let k : c < length (round p limit n) = subst (λ j. c < j) (sym (round_count p limit n)) l in
        record {
          taken = round_at p limit n c l ∙ ap (history p limit c) (sym (at.mail_is c) ∙ posts.same c u);
          asked = all_asked c k;
          posted = λ m i. posted m (sends_at (round p limit n) c m k i);
        }

    pub passed : IsPassed p limit n mails' marks' (round p limit n)
    passed = record {
      before = at.before;
      is_round = refl;
      size = size;
      once = once;
      same = no_news;
      news = news;
      next = λ u. record {
        before = one_more p limit n at.before u;
        mail_is = held_now;
        stale = still;
        mails_count = mails_count ∙ at.mails_count;
        marks_count = marks_count ∙ at.mails_count;
        histories_count = round_count p limit n;
        size = size;
      };
    }
