-- Where a round is Clean, nothing is refused.
use Rattle.std.proofs.Common.{◌≡◌, ◌⊎◌, ◌<◌, ◌≤◌, inl, inr, ℕ, Bool, true, false, List, [], ◌∷◌, Some, refl, sym, ap, subst, ◌∙◌, length, arith}
use Rattle.bs_tree.specs.declared.tree.Program.{Program}
use Rattle.bs_log.specs.declared.history.Message.{Message}
use Rattle.bs_log.specs.Size.{size, size_all}
use Rattle.bs_log.specs.Lists.{Mem, Apart, Each}
use Rattle.bs_log.specs.Messages.{one_asked, one_key, sent}
use Rattle.bs_semantics.specs.Run.{history}
use Rattle.bs_semantics.specs.Rounds.{CleanAt, Closed, chares, histories, mail_to, round}
use Rattle.bs_semantics.specs.Starting.{AllIn}
use Rattle.bs_semantics.proofs.Chains.{closed_low}
use Rattle.bs_semantics.proofs.ClosedSets.{any_order}
use Rattle.bs_semantics.proofs.Confluence.{clean_closed}
use Rattle.bs_semantics.proofs.Distinct.{Distinct, no_longer}
use Rattle.bs_semantics.proofs.Mails.{found, hits, hits_at, is_for_itself}
use Rattle.bs_semantics.proofs.Options.{some_same}
use Rattle.bs_semantics.proofs.Sizes.{count_sent}
use Rattle.bs_semantics.proofs.Starting.{partly}
use Rattle.bs_emul.specs.Reached.{IsReached}
use Rattle.bs_emul.proofs.Sent.{all_distinct, is_chare, size_in, each_in}
use Rattle.bs_emul.proofs.Serving.{in_round}

true_false : {A : Type 0} → true ≡ false → A
true_false e = absurd (cc)

-- different messages that are all in a list whose keys are apart have keys apart
pub keys_apart : (xs ys : List Message) → Distinct xs → AllIn xs ys → Apart one_key ys → Apart one_key xs
keys_apart [] ys d f k = tt
keys_apart (x ∷ xs) ys d f k = ((λ y i. by_test y i (one_key x y) refl), keys_apart xs ys d.1 (λ y i. f y (inr i)) k)
  where
    by_test : (y : Message) → Mem y xs → (t : Bool) → one_key x y ≡ t → t ≡ false
    by_test y i true e = absurd (d.0 y i (some_same (sym (hits_at ys k x (f x (inl refl)) y.sent.to y.sent.key e) ∙ hits ys k y (f y (inr i)))))
    by_test y i false e = refl

-- messages whose keys are apart differ
distinct_keys : (xs : List Message) → Apart one_key xs → Distinct xs
distinct_keys [] k = tt
distinct_keys (x ∷ xs) k = ((λ y i e. true_false (sym (is_for_itself y) ∙ (ap (λ x. one_key x y) (sym e) ∙ k.0 y i))), distinct_keys xs k.1)

-- under messages of the Clean round
module _ (p : Program) (limit n : ℕ) (h : CleanAt p limit n) (ms : List Message) (f : AllIn ms (sent (round p limit n))) where
  pub all_short : size_all (histories p limit ms) ≤ limit
  all_short = (partly p limit n ms h f).size

  pub one_short : (c : ℕ) → c < p.chares → size (history p limit c (mail_to ms c)) ≤ limit
  one_short c l =
      let one = size_in p limit (mail_to ms) (chares p) c (is_chare p c l) in
      let all = all_short in
      omega (arith, one, all)

  pub asks_once : (c : ℕ) → c < p.chares → Apart one_asked (history p limit c (mail_to ms c)).asked
  asks_once c l = each_in p limit (mail_to ms) (λ h. Apart one_asked h.asked) (chares p) c (is_chare p c l) ((partly p limit n ms h f).once).asked

-- no more messages are served than the limit
pub few_served : (p : Program) (limit : ℕ) (ms queue : List Message) → IsReached p limit ms queue → (n : ℕ) → CleanAt p limit n → length ms ≤ limit
few_served p limit ms queue r n h =
    let few = no_longer ms (sent (round p limit n)) (distinct_keys ms r.keys) (r.clean n h) in
    let size = count_sent (round p limit n) in
    let all = h.size in
    omega (arith, few, size, all)

module _ (p : Program) (limit : ℕ) (ms : List Message) (m : Message) (queue : List Message) (r : IsReached p limit ms (m ∷ queue)) (n : ℕ) (h : CleanAt p limit n) where
  pub not_deep : m.origin.depth ≤ limit
  not_deep = closed_low p limit (round p limit n) (clean_closed p limit n h) m (in_round p limit ms (m ∷ queue) r n h m (inl refl))

  pub not_twice : (x : Message) → mail_to ms m.sent.to m.sent.key ≡ Some x → ⊥
  not_twice x e =
      let all = sent (round p limit n) in
      let at = found ms m.sent.to m.sent.key x e in
      let is_m = hits all (h.once).sent m (in_round p limit ms (m ∷ queue) r n h m (inl refl)) in
      let is_x = hits_at all (h.once).sent x (r.clean n h x at.0) m.sent.to m.sent.key at.1 in
      r.unserved m (inl refl) (subst (λ y. Mem y ms) (some_same (sym is_x ∙ is_m)) at.0)

  -- what is served then is of the Clean round too
  pub next_in_round : AllIn (m ∷ ms) (sent (round p limit n))
  next_in_round y (inl e) = in_round p limit ms (m ∷ queue) r n h y (inl e)
  next_in_round y (inr i) = r.clean n h y i

-- where nothing is left, and nothing is too long or asked twice, the histories are closed
pub all_served : (p : Program) (limit : ℕ) (ms : List Message) → IsReached p limit ms [] → Each (λ h. Apart one_asked h.asked) (histories p limit ms) → size_all (histories p limit ms) ≤ limit → Closed p limit (histories p limit ms)
all_served p limit ms r asked size =
    let hs = histories p limit ms in
    let back : AllIn (sent hs) ms = λ m i. by_side m (r.all m i) in
    any_order p limit ms hs refl (record { sent = keys_apart (sent hs) ms (all_distinct p limit ms) back r.keys; asked = asked }) size (record { of_a = r.served; of_b = back })
  where
    by_side : (m : Message) → Mem m ms ⊎ Mem m [] → Mem m ms
    by_side m (inl i) = i
    by_side m (inr i) = absurd i
