-- What is known before a round: its mails are shallow, the histories under them are those of the round, and all is sent to
-- chares.
use Rattle.std.proofs.Common.{◌≡◌, ◌⊎◌, ◌<◌, ◌≤◌, ◌-◌, inl, inr, ℕ, zero, suc, ◌+◌, Bool, true, false, List, [], None, Some, refl, sym, ap, subst, ◌∙◌, length, map, arith}
use Rattle.std.proofs.lemmas.Bool.{cases_lt}
use Rattle.bs_tree.specs.declared.tree.Program.{Program}
use Rattle.bs_log.specs.declared.history.Key.{Key}
use Rattle.bs_log.specs.declared.history.Message.{Message}
use Rattle.bs_log.specs.declared.history.History.{History}
use Rattle.bs_log.specs.Size.{size, size_all}
use Rattle.bs_log.specs.Lists.{Mem}
use Rattle.bs_log.specs.Messages.{sent, AreFor}
use Rattle.bs_log.specs.Histories.{no_history, history_at}
use Rattle.bs_check.specs.Declarations.{declared_names, has_twice, is_within}
use Rattle.bs_check.specs.Refusal.{refusal}
use Rattle.bs_check.proofs.Verdict.{twice_refused, limits_refused}
use Rattle.bs_check.proofs.Fitting.{Fitting, fitting}
use Rattle.bs_semantics.specs.Run.{Lookup, history}
use Rattle.bs_semantics.specs.Rounds.{Undecided, mail_to, mail, round, chares}
use Rattle.bs_semantics.proofs.Subsequences.{member}
use Rattle.bs_semantics.proofs.Mails.{found}
use Rattle.bs_semantics.proofs.Proper.{run_proper}
use Rattle.bs_semantics.proofs.Sets.{from_block}
use Rattle.bs_semantics.proofs.Chains.{low}
use Rattle.bs_semantics.proofs.Verdicts.{mail_grows}
use Rattle.bs_rounds.specs.Posting.{flag, held, sent_by}
use Rattle.bs_rounds.specs.Taking.{AreShallow, AreTaken, histories_under}
use Rattle.bs_rounds.specs.State.{IsStale, IsAtRound}
use Rattle.bs_rounds.proofs.Taken.{size_at, nth, count_from}
use Rattle.bs_rounds.proofs.Among.{by_marked}

-- an accepted program keeps the limits
pub kept : (p : Program) → refusal p ≡ None → Fitting p
kept p e = fitting p (by_limits (is_within p) (has_twice (declared_names p)) refl refl)
  where
    by_limits : (s t : Bool) → is_within p ≡ s → has_twice (declared_names p) ≡ t → is_within p ≡ true
    by_limits true t i h = i
    by_limits false true i h = let q = sym e ∙ twice_refused p h in absurd (cc)
    by_limits false false i h = let q = sym e ∙ limits_refused p h i in absurd (cc)

module _ (p : Program) (limit n : ℕ) where
  pub round_at : (c : ℕ) → c < p.chares → history_at (round p limit n) c ≡ history p limit c (mail_to (mail p limit n) c)
  round_at c l = nth (λ c. history p limit c (mail_to (mail p limit n) c)) p.chares c no_history l

  pub round_count : length (round p limit n) ≡ p.chares
  round_count = count_from (λ c. history p limit c (mail_to (mail p limit n) c)) p.chares 0

  pub target : 1 ≤ p.chares → (m : Message) → Mem m (sent (round p limit n)) → m.sent.to < p.chares
  target some m i =
      let h = from_block p limit (mail_to (mail p limit n)) (chares p) m i in
      let t = (((run_proper p limit h.chare (mail_to (mail p limit n) h.chare) h.block h.is_block).sends m h.is_sent)).target in
      omega (arith, t, some)

module _ (p : Program) (limit : ℕ) (small : limit ≤ 262144) where
  -- what is in the mail of a round was sent in the round before
  low_mail : (n : ℕ) → ((m : ℕ) → m < n → Undecided p limit m) → (m : Message) → Mem m (mail p limit n) → m.origin.depth ≤ 262144
  low_mail zero before m i = absurd i
  low_mail (suc n) before m i =
      let earlier = λ (k : ℕ) (l : k < n). before k (omega (arith, l)) in
      let deep = low p limit (mail p limit n) (λ x j. member x _ _ (mail_grows p limit n earlier) j) (before n (omega arith)).size m i in
      omega (arith, deep, small)

  module _ (n : ℕ) (mails : List (List Message)) (marks : List Bool) (hs : List History) (at : IsAtRound p limit n mails marks hs) where
    pub shallow : AreShallow mails
    shallow c k m e =
        let f = found (mail p limit n) c k m (ap (λ l. l k) (sym (at.mail_is c)) ∙ e) in
        low_mail n at.before m f.0

    pub stale : AreTaken p limit mails marks hs
    stale c l u = (at.stale c l u).taken

    pub under_is : histories_under p limit mails ≡ round p limit n
    under_is = ap (λ (f : ℕ → Lookup). map (λ c. history p limit c (f c)) (chares p)) (λ i c k. at.mail_is c i k)

    pub too_long : (c : ℕ) → c < p.chares → limit < size (history p limit c (held mails c)) → limit < size_all (round p limit n)
    too_long c l long =
        let same : size (history_at (round p limit n) c) ≡ size (history p limit c (held mails c)) = ap size (round_at p limit n c l ∙ ap (history p limit c) (sym (at.mail_is c))) in
        let k : c < length (round p limit n) = subst (λ j. c < j) (sym (round_count p limit n)) l in
        let one = size_at (round p limit n) c k in
        omega (arith, same, one, long)

    pub targets : 1 ≤ p.chares → AreFor (length mails) (sent_by marks (round p limit n))
    targets some m i = subst (λ j. m.sent.to < j) (sym at.mails_count) (target p limit n some m (by_marked marks (round p limit n) m i))
