-- A closed set exists exactly where the verdict is Clean, and it is the Clean round.
use Rattle.std.proofs.Common.{◌≡◌, ◌≤◌, ◌<◌, ◌⊎◌, inl, inr, ℕ, zero, suc, ◌+◌, List, sym, ap, subst, ◌∙◌, length, arith}
use Rattle.std.proofs.lemmas.Bool.{cases_lt}
use Rattle.bs_tree.specs.declared.tree.Program.{Program}
use Rattle.bs_log.specs.declared.history.Message.{Message}
use Rattle.bs_log.specs.declared.history.History.{History}
use Rattle.bs_semantics.specs.Rounds.{mail_to, SameMail, chares, histories, mail, round, CleanAt, Closed}
use Rattle.bs_log.specs.Size.{size_all}
use Rattle.bs_log.specs.Lists.{Mem, Apart}
use Rattle.bs_log.specs.Sound.{Once}
use Rattle.bs_log.specs.Messages.{one_key, sent}
use Rattle.bs_semantics.specs.Growth.{Subsequence, PartOf}
use Rattle.bs_semantics.specs.Depth.{HoldsBelow}
use Rattle.bs_semantics.proofs.Subsequences.{empty, not_longer, apart, all_of}
use Rattle.bs_semantics.proofs.Mails.{found, part, hits, hits_at, one_lookup, all_held}
use Rattle.bs_semantics.proofs.Sets.{under, sent_grows, sizes_grow, once_grows, sent_near}

module _ (p : Program) (limit : ℕ) where
  -- mails that hold the same give the same histories
  pub same_histories : (a b : List Message) → SameMail a b → histories p limit a ≡ histories p limit b
  same_histories a b h = ap (λ f. under p limit f (chares p)) (λ i c k. h c k i)

  pub clean_closed : (n : ℕ) → CleanAt p limit n → Closed p limit (round p limit n)
  clean_closed n h = record { same = sym (same_histories (mail p limit (suc n)) (mail p limit n) h.same); once = h.once; size = h.size }

  -- what is sent grows with the mail
  pub mails_grow : (a b : List Message) → Subsequence Message a b → Apart one_key b → Subsequence Message (sent (histories p limit a)) (sent (histories p limit b))
  mails_grow a b s h = sent_grows p limit (mail_to a) (mail_to b) (part a b s h) (chares p)

  -- a mail that is what its histories send, each key once
  module _ (all : List Message) (fixed : all ≡ sent (histories p limit all)) (once : Once (histories p limit all)) where
    all_apart : Apart one_key all
    all_apart = subst (Apart one_key) (sym fixed) once.sent

    pub within : (n : ℕ) → Subsequence Message (mail p limit n) all
    within zero = empty all
    within (suc n) = subst (Subsequence Message (mail p limit (suc n))) (sym fixed) (mails_grow (mail p limit n) all (within n) all_apart)

    mail_apart : (n : ℕ) → Apart one_key (mail p limit n)
    mail_apart n = apart one_key _ _ (within n) all_apart

    mail_part : (n c : ℕ) → PartOf (mail_to (mail p limit n) c) (mail_to all c)
    mail_part n = part (mail p limit n) all (within n) all_apart

    pub growing : (n : ℕ) → Subsequence Message (mail p limit n) (mail p limit (suc n))
    growing zero = empty _
    growing (suc n) = mails_grow (mail p limit n) (mail p limit (suc n)) (growing n) (mail_apart (suc n))

    abbrev Longer : ℕ → Type 0
    Longer m = length (mail p limit m) < length (mail p limit (suc m))

    record Stops : Type 0 where
      at : ℕ
      stands : mail p limit at ≡ mail p limit (suc at)
      before : (m : ℕ) → m < at → Longer m

    longer_up_to : (n : ℕ) → ((m : ℕ) → m < n → Longer m) → Longer n → (m : ℕ) → m < suc n → Longer m
    longer_up_to n h k m l = by_cases (cases_lt m n)
      where
        by_cases : (m < n) ⊎ (n ≤ m) → Longer m
        by_cases (inl i) = h m i
        by_cases (inr i) = let e : n ≡ m = omega (arith, i, l) in subst Longer e k

    stop_or : (n : ℕ) → ((m : ℕ) → m < n → Longer m) → (Longer n → Stops) → Longer n ⊎ (length (mail p limit (suc n)) ≤ length (mail p limit n)) → Stops
    stop_or n h go (inl l) = go l
    stop_or n h go (inr l) = let up = not_longer _ _ (growing n) in record { at = n; stands = all_of _ _ (growing n) (omega (arith, l, up)); before = h }

    search_from : (fuel n : ℕ) → length all ≤ fuel + length (mail p limit n) → ((m : ℕ) → m < n → Longer m) → Stops
    search_from zero n l h = stop_or n h (λ k. let top = not_longer _ _ (within (suc n)) in absurd (omega (arith, l, k, top))) (cases_lt _ _)
    search_from (suc fuel) n l h = stop_or n h (λ k. search_from fuel (suc n) (omega (arith, l, k)) (longer_up_to n h k)) (cases_lt _ _)

    stops : Stops
    stops = search_from (length all) 0 (omega arith) (λ m l. absurd (omega (arith, l)))

    module _ (n : ℕ) (stands : mail p limit n ≡ mail p limit (suc n)) where
      -- what all hold at less than depth d, the standing mail holds
      descent : (d c : ℕ) → HoldsBelow d (mail_to (mail p limit n) c) (mail_to all c)
      descent zero c k m e l = absurd (omega (arith, l))
      descent (suc d) c k m e l =
          let at = found all c k m e in
          let i : Mem m (sent (histories p limit all)) = subst (Mem m) fixed at.0 in
          let j : Mem m (mail p limit (suc n)) = sent_near p limit (mail_to (mail p limit n)) (mail_to all) (mail_part n) d (descent d) (chares p) m (omega (arith, l)) i in
          hits_at (mail p limit n) (mail_apart n) m (subst (Mem m) (sym stands) j) c k at.1

      same_mail : SameMail all (mail p limit n)
      same_mail c k = ap (λ f. f k) (one_lookup (mail_to all c) (mail_to (mail p limit n) c) (λ k m e. descent (suc m.origin.depth) c k m e (omega arith)) (mail_part n c))

      pub same_round : histories p limit all ≡ round p limit n
      same_round = same_histories all (mail p limit n) same_mail

    pub small : (size_all (histories p limit all) ≤ limit) → (n : ℕ) → size_all (round p limit n) ≤ limit
    small l n = let one = sizes_grow p limit (mail_to (mail p limit n)) (mail_to all) (mail_part n) (chares p) in omega (arith, l, one)

    pub once_in : (n : ℕ) → Once (round p limit n)
    once_in n = once_grows p limit (mail_to (mail p limit n)) (mail_to all) (mail_part n) (chares p) once

    fresh : (n : ℕ) → Longer n → SameMail (mail p limit (suc n)) (mail p limit n) → ⊥
    fresh n l h =
        let one : mail p limit n ≡ mail p limit (suc n) = all_held _ _ (growing n) (mail_apart (suc n)) (λ m i.
        (found (mail p limit n) m.sent.to m.sent.key m (sym (h m.sent.to m.sent.key) ∙ hits (mail p limit (suc n)) (mail_apart (suc n)) m i)).0) in
        let two = ap length one in
        omega (arith, l, two)

    pub clean_at : (size_all (histories p limit all) ≤ limit) → (n : ℕ) × CleanAt p limit n × (histories p limit all ≡ round p limit n)
    clean_at l =
        let s = stops in (
          s.at,
          record {
            before = λ m i. record { size = small l m; once = once_in m; news = fresh m (s.before m i) };
            size = small l s.at;
            once = once_in s.at;
            same = λ c k. ap (λ ms. mail_to ms c k) (sym s.stands);
          },
          same_round s.at s.stands,
        )

  pub closed_clean : (hs : List History) → Closed p limit hs → (n : ℕ) × CleanAt p limit n × (hs ≡ round p limit n)
  closed_clean hs h =
      let size : size_all (histories p limit (sent hs)) ≤ limit = subst (λ hs. size_all hs ≤ limit) h.same h.size in
      let c = clean_at (sent hs) (ap sent h.same) (subst Once h.same h.once) size in
      (c.0, c.1, h.same ∙ c.2)

  -- there is one Clean round
  one_clean : (m n : ℕ) → CleanAt p limit m → CleanAt p limit n → m ≡ n
  one_clean m n h k = by_cases (cases_lt m n) (cases_lt n m)
    where
      by_cases : (m < n) ⊎ (n ≤ m) → (n < m) ⊎ (m ≤ n) → m ≡ n
      by_cases (inl l) _ = absurd ((k.before m l).news h.same)
      by_cases (inr l) (inl i) = absurd ((h.before n i).news k.same)
      by_cases (inr l) (inr i) = omega (arith, l, i)

  pub closed_only : (n : ℕ) (hs : List History) → CleanAt p limit n → Closed p limit hs → hs ≡ round p limit n
  closed_only n hs h k = let c = closed_clean hs k in c.2 ∙ ap (round p limit) (one_clean c.0 n c.1 h)
