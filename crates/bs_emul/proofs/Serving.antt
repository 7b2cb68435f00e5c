-- One message more is served.
use Rattle.std.proofs.Common.{◌≡◌, ◌⊎◌, ◌<◌, inl, inr, ℕ, ◌==◌, ◌&&◌, Bool, true, false, if◌then◌else◌, List, ◌∷◌, ◌++◌, Option, Some, None, refl, sym, ap₂, subst, ◌∙◌, eqb-true}
use Rattle.std.proofs.lemmas.Bool.{eqb-false}
use Rattle.bs_tree.specs.declared.tree.Program.{Program}
use Rattle.bs_log.specs.declared.history.Message.{Message}
use Rattle.bs_log.specs.Lists.{Mem}
use Rattle.bs_log.specs.Messages.{is_for, one_key, same_key, sends_of, sent}
use Rattle.bs_semantics.specs.Run.{Lookup, history}
use Rattle.bs_semantics.specs.Rounds.{CleanAt, chares, histories, mail_to, round}
use Rattle.bs_semantics.specs.Growth.{PartOf, Subsequence}
use Rattle.bs_semantics.specs.Starting.{AllIn}
use Rattle.bs_semantics.proofs.Mails.{is_for_is, hits}
use Rattle.bs_semantics.proofs.Members.{mem_left, mem_right, mem_cases, in_order_both}
use Rattle.bs_semantics.proofs.Options.{none_some}
use Rattle.bs_semantics.proofs.Sets.{sent_grows}
use Rattle.bs_semantics.proofs.Starting.{partly}
use Rattle.bs_semantics.proofs.Subsequences.{member}
use Rattle.bs_emul.specs.Reached.{IsReached}
use Rattle.bs_emul.proofs.Sent.{distinct_part, is_chare, is_from, sent_in, chare_of, one_distinct}

true_false : {A : Type 0} → true ≡ false → A
true_false e = absurd (cc)

not_for : (m : Message) (o : Option Message) (s t : Bool) → s ≡ false → (if s && t then Some m else o) ≡ o
not_for m o false t e = refl
not_for m o true t e = true_false e

-- a message is no mail of other chares
pub elsewhere : (ms : List Message) (m : Message) (c : ℕ) → (m.sent.to ≡ c → ⊥) → mail_to (m ∷ ms) c ≡ mail_to ms c
elsewhere ms m c n = by_test (m.sent.to == c) refl
  where
    by_test : (t : Bool) → (m.sent.to == c) ≡ t → mail_to (m ∷ ms) c ≡ mail_to ms c
    by_test true e = absurd (n (eqb-true _ _ e))
    by_test false e = λ i k. not_for m (mail_to ms c k) (m.sent.to == c) (same_key m.sent.key k) e i

-- what was in the round of a Clean verdict stays there
pub in_round : (p : Program) (limit : ℕ) (ms queue : List Message) → IsReached p limit ms queue → (n : ℕ) → CleanAt p limit n → AllIn queue (sent (round p limit n))
in_round p limit ms queue r n h y i = member y _ _ (partly p limit n ms h (r.clean n h)).sends (r.queued y i)

module _ (p : Program) (limit : ℕ) (ms : List Message) (m : Message) (free : mail_to ms m.sent.to m.sent.key ≡ None) where
  abbrev now : ℕ → Lookup
  now = mail_to (m ∷ ms)

  grows : (c : ℕ) → PartOf (mail_to ms c) (now c)
  grows c k x e = by_test (is_for c k m) refl
    where
      by_test : (t : Bool) → is_for c k m ≡ t → (if t then Some m else mail_to ms c k) ≡ Some x
      by_test true t = let at = is_for_is c k m t in absurd (none_some (sym free ∙ (ap₂ (mail_to ms) at.0 at.1 ∙ e)))
      by_test false t = e

  sent_more : AllIn (sent (histories p limit ms)) (sent (histories p limit (m ∷ ms)))
  sent_more y i = member y _ _ (sent_grows p limit (mail_to ms) now grows (chares p)) i

  no_key : (y : Message) → mail_to ms y.sent.to y.sent.key ≡ Some y → one_key m y ≡ false
  no_key y e = by_test (one_key m y) refl
    where
      by_test : (t : Bool) → one_key m y ≡ t → t ≡ false
      by_test true t = let at = is_for_is y.sent.to y.sent.key m t in absurd (none_some (sym free ∙ (ap₂ (mail_to ms) at.0 at.1 ∙ e)))
      by_test false t = refl

  module _ (some : m.sent.to < p.chares) (news : List Message)
      (order : Subsequence Message news (sends_of (history p limit m.sent.to (now m.sent.to)).blocks))
      (unsent : (y : Message) → Mem y news → Mem y (sends_of (history p limit m.sent.to (mail_to ms m.sent.to)).blocks) → ⊥)
      (covers : (y : Message) → Mem y (sends_of (history p limit m.sent.to (now m.sent.to)).blocks) → Mem y (sends_of (history p limit m.sent.to (mail_to ms m.sent.to)).blocks) ⊎ Mem y news) where
    fresh : (y : Message) → Mem y news → Mem y (sent (histories p limit ms)) → ⊥
    fresh y i j =
        let h = is_from p limit (mail_to ms) (chares p) y j in
        let at : h.chare ≡ m.sent.to = sym h.origin ∙ chare_of p limit now m.sent.to y (member y _ _ order i) in
        unsent y i (subst (λ c. Mem y (sends_of (history p limit c (mail_to ms c)).blocks)) at h.sends)

    known_or_new : (y : Message) → Mem y (sent (histories p limit (m ∷ ms))) → Mem y (sent (histories p limit ms)) ⊎ Mem y news
    known_or_new y i = let h = is_from p limit now (chares p) y i in by_test h.chare h.is_chare h.sends (m.sent.to == h.chare) refl
      where
        by_side : Mem y (sends_of (history p limit m.sent.to (mail_to ms m.sent.to)).blocks) ⊎ Mem y news → Mem y (sent (histories p limit ms)) ⊎ Mem y news
        by_side (inl j) = inl (sent_in p limit (mail_to ms) (chares p) m.sent.to y (is_chare p m.sent.to some) j)
        by_side (inr j) = inr j

        by_test : (c : ℕ) → Mem c (chares p) → Mem y (sends_of (history p limit c (now c)).blocks) → (t : Bool) → (m.sent.to == c) ≡ t → Mem y (sent (histories p limit ms)) ⊎ Mem y news
        by_test c k j true e = by_side (covers y (subst (λ c. Mem y (sends_of (history p limit c (now c)).blocks)) (sym (eqb-true _ _ e)) j))
        by_test c k j false e = inl (sent_in p limit (mail_to ms) (chares p) c y k (subst (λ (l : Lookup). Mem y (sends_of (history p limit c l).blocks)) (elsewhere ms m c (eqb-false _ _ e)) j))

    module _ (queue : List Message) (r : IsReached p limit ms (m ∷ queue)) where
      served_more : AllIn (m ∷ ms) (sent (histories p limit (m ∷ ms)))
      served_more y (inl e) = sent_more y (r.queued y (inl e))
      served_more y (inr i) = sent_more y (r.served y i)

      queued_more : (y : Message) → Mem y queue ⊎ Mem y news → Mem y (sent (histories p limit (m ∷ ms)))
      queued_more y (inl i) = sent_more y (r.queued y (inr i))
      queued_more y (inr i) = sent_in p limit now (chares p) m.sent.to y (is_chare p m.sent.to some) (member y _ _ order i)

      known : (y : Message) → Mem y ms ⊎ Mem y (m ∷ queue) → Mem y (m ∷ ms) ⊎ Mem y (queue ++ news)
      known y (inl i) = inl (inr i)
      known y (inr (inl e)) = inl (inl e)
      known y (inr (inr i)) = inr (mem_left y queue news i)

      all_more : (y : Message) → Mem y (sent (histories p limit ms)) ⊎ Mem y news → Mem y (m ∷ ms) ⊎ Mem y (queue ++ news)
      all_more y (inl i) = known y (r.all y i)
      all_more y (inr i) = inr (mem_right y queue news i)

      unserved_more : (y : Message) → Mem y queue ⊎ Mem y news → Mem y (m ∷ ms) → ⊥
      unserved_more y (inl i) (inl e) = r.distinct.0 y i (sym e)
      unserved_more y (inl i) (inr j) = r.unserved y (inr i) j
      unserved_more y (inr i) (inl e) = fresh y i (r.queued y (inl e))
      unserved_more y (inr i) (inr j) = fresh y i (r.served y j)

      clean_more : (n : ℕ) → CleanAt p limit n → AllIn (m ∷ ms) (sent (round p limit n))
      clean_more n h y (inl e) = in_round p limit ms (m ∷ queue) r n h y (inl e)
      clean_more n h y (inr i) = r.clean n h y i

      pub serves : IsReached p limit (m ∷ ms) (queue ++ news)
      serves = record {
        served = served_more;
        queued = λ y i. queued_more y (mem_cases y queue news i);
        all = λ y i. all_more y (known_or_new y i);
        unserved = λ y i j. unserved_more y (mem_cases y queue news i) j;
        distinct = in_order_both (λ x y. x ≡ y → ⊥) queue news r.distinct.1 (distinct_part news _ order (one_distinct p limit now m.sent.to)) (λ a b i j e. fresh b j (subst (λ y. Mem y (sent (histories p limit ms))) e (r.queued a (inr i))));
        keys = ((λ y i. no_key y (hits ms r.keys y i)), r.keys);
        clean = clean_more;
      }
