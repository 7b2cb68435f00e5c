-- What the next block's messages lead to. Where the verdict is Clean, no mail is given two messages of one key, no message
-- is too deep, and no history too long.
use Rattle.std.proofs.Common.{◌≡◌, ◌≤◌, ◌<◌, ◌⊎◌, inl, inr, ℕ, zero, suc, ◌==◌, ◌&&◌, Bool, true, false, if◌then◌else◌, List, [], ◌∷◌, ◌++◌, Some, None, length, slice_get, refl, sym, ap, ap₂, subst, ◌∙◌, arith}
use Rattle.std.proofs.lemmas.Bool.{cases_lt}
use Rattle.std.proofs.lemmas.List.Sums.{sum_by-cons}
use Rattle.std.proofs.lemmas.Option.{slice_get_past}
use Rattle.bs_tree.specs.declared.tree.Program.{Program}
use Rattle.bs_log.specs.declared.history.Key.{Key}
use Rattle.bs_log.specs.declared.history.Message.{Message}
use Rattle.bs_log.specs.declared.history.Block.{Block}
use Rattle.bs_log.specs.declared.history.History.{History}
use Rattle.bs_log.specs.Size.{size, size_all}
use Rattle.bs_log.specs.Lists.{Mem, Apart}
use Rattle.bs_log.specs.Messages.{one_key, same_key, sends_of, sent, AreFor}
use Rattle.bs_machine.specs.declared.fitted.Fitted.{Fitted}
use Rattle.bs_match.specs.Mail.{with_message}
use Rattle.bs_semantics.specs.Run.{Lookup, history}
use Rattle.bs_semantics.specs.Rounds.{CleanAt, chares, mail_to, round}
use Rattle.bs_semantics.specs.Growth.{Subsequence}
use Rattle.bs_semantics.specs.Proper.{IsProper}
use Rattle.bs_semantics.specs.Serial.{Started, IsEnabled, IsNext, messages, histories_at, find}
use Rattle.bs_semantics.specs.Reached.{IsReached, goes_on}
use Rattle.bs_semantics.proofs.Find.{finds}
use Rattle.bs_semantics.proofs.Options.{none_some, some_same}
use Rattle.bs_semantics.proofs.Mails.{is_for_is, found, hits}
use Rattle.bs_semantics.proofs.Members.{mem_left, mem_right, mem_cases}
use Rattle.bs_semantics.proofs.Proper.{run_proper}
use Rattle.bs_semantics.proofs.Sets.{under}
use Rattle.bs_semantics.proofs.Signed.{run_signed}
use Rattle.bs_semantics.proofs.Starting.{sent_by}
use Rattle.bs_semantics.proofs.Subsequences.{whole, empty, beside, longer, apart}
use Rattle.bs_semantics.proofs.Chains.{closed_low}
use Rattle.bs_semantics.proofs.Confluence.{clean_closed}
use Rattle.bs_semantics.proofs.Reached.{reached_sent, reached_clean}
use Rattle.bs_times.specs.Machine.{machine_of}
use Rattle.bs_model.specs.But.{HoldsBut}
use Rattle.bs_model.specs.Mails.{mail_at, mail_in, mail_after, AreDelivered, AreHistories, AreKept, AreShallow, AreShort, CanDeliver, history_at}
use Rattle.bs_model.specs.Started.{AreStarted, IsSent, one_more}
use Rattle.bs_model.proofs.But.{but_less}
use Rattle.bs_model.proofs.Delivery.{none_if}
use Rattle.bs_model.proofs.Places.{at_number, numbered}
use Rattle.bs_model.proofs.Running.{keys_apart, all_low, are_blocks, reached}
use Rattle.bs_model.proofs.Staying.{signed_at}

put_to : (t : Bool) (x : Message) (l : Lookup) → (if t then with_message x l else l) ≡ (λ k. if t && same_key x.sent.key k then Some x else l k)
put_to true x l = refl
put_to false x l = refl

-- the mail with what a block sends
pub after_is : (c : ℕ) (xs ms : List Message) → mail_after c (mail_to ms c) xs ≡ mail_to (xs ++ ms) c
after_is c [] ms = refl
after_is c (x ∷ xs) ms = ap (λ (l : Lookup). if x.sent.to == c then with_message x l else l) (after_is c xs ms) ∙ put_to (x.sent.to == c) x (mail_to (xs ++ ms) c)

pub size_here : (hs : List History) (c : ℕ) (h : History) → slice_get hs c ≡ Some h → size h ≤ size_all hs
size_here [] c h e = absurd (cc)
size_here (g ∷ hs) zero h e =
    let same : g ≡ h = cc in
    let all = sum_by-cons size g hs in
    subst (λ x. size x ≤ size_all (g ∷ hs)) same (omega (arith, all))
size_here (g ∷ hs) (suc c) h e =
    let all = sum_by-cons size g hs in
    let rest = size_here hs c h e in
    omega (arith, all, rest)

none_held : (mails : List (List Message)) (c : ℕ) (k : Key) (x : Message) → mail_at mails c k ≡ Some x → c < length mails
none_held mails c k x e = by_case (cases_lt c (length mails))
  where
    by_case : (c < length mails) ⊎ (length mails ≤ c) → c < length mails
    by_case (inl l) = l
    by_case (inr l) =
        let none : mail_at mails c k ≡ None = ap (λ ms. mail_in ms k) (slice_get_past mails c l) in
        absurd (cc)

both_apart : (xs ys : List Message) → Apart one_key xs → Apart one_key ys → ((x y : Message) → Mem x xs → Mem y ys → one_key x y ≡ false) → Apart one_key (xs ++ ys)
both_apart [] ys h k f = k
both_apart (x ∷ xs) ys h k f = ((λ y i. by_side y (mem_cases y xs ys i)), both_apart xs ys h.1 k (λ z y i j. f z y (inr i) j))
  where
    by_side : (y : Message) → Mem y xs ⊎ Mem y ys → one_key x y ≡ false
    by_side y (inl i) = h.0 y i
    by_side y (inr j) = f x y (inl refl) j

not_true : (t : Bool) → (t ≡ true → ⊥) → t ≡ false
not_true true f = absurd (f refl)
not_true false f = refl

-- what a block sends, among what all blocks send
sends_within : (x : Block) (xs : List Block) → Mem x xs → Subsequence Message x.sends (sends_of xs)
sends_within x [] i = absurd i
sends_within x (y ∷ xs) (inl e) = subst (λ (y : Block). Subsequence Message x.sends (y.sends ++ sends_of xs)) e (longer x.sends x.sends (sends_of xs) (whole x.sends))
sends_within x (y ∷ xs) (inr i) = beside [] y.sends x.sends (sends_of xs) (empty y.sends) (sends_within x xs i)

module _ (p : Program) (limit : ℕ) (f : ℕ → Lookup) where
  block_within : (cs : List ℕ) (c : ℕ) (x : Block) → Mem c cs → Mem x (history p limit c (f c)).blocks → Subsequence Message x.sends (sent (under p limit f cs))
  block_within [] c x i j = absurd i
  block_within (d ∷ cs) c x (inl e) j =
      subst (λ d. Subsequence Message x.sends (sends_of (history p limit d (f d)).blocks ++ sent (under p limit f cs))) e
      (longer x.sends (sends_of (history p limit c (f c)).blocks) (sent (under p limit f cs)) (sends_within x (history p limit c (f c)).blocks j))
  block_within (d ∷ cs) c x (inr i) j = beside [] (sends_of (history p limit d (f d)).blocks) x.sends (sent (under p limit f cs)) (empty (sends_of (history p limit d (f d)).blocks)) (block_within cs c x i j)

module _ (p : Program) (limit : ℕ) (m : Fitted) where
  -- messages of one key to one chare are one
  one_message : (n : ℕ) → CleanAt p limit n → (bs : List Started) → IsReached p limit (machine_of m) bs → (a x : Message) → Mem a (messages bs) → Mem x (messages bs) → x.sent.to ≡ a.sent.to → x.sent.key ≡ a.sent.key → x ≡ a
  one_message n clean bs r a x i j t k =
      let all = sent (round p limit n) in
      let mine = hits all (clean.once).sent a (reached_sent p limit (machine_of m) n clean bs r a i) in
      let its = hits all (clean.once).sent x (reached_sent p limit (machine_of m) n clean bs r x j) in
      some_same (sym its ∙ (ap₂ (mail_to all) t k ∙ mine))

  -- the place of the block that sent a message
  origin_at : (c : ℕ) (f : Lookup) (x : Block) → Mem x (history p limit c f).blocks → (a : Message) → Mem a x.sends → (a.origin.chare ≡ c) × (a.origin.path.0 ≡ x.path.0)
  origin_at c f x i a j = let s = run_signed p limit c f x i in signed_at c x.path.0 x.depth 1 s.parcels a (subst (Mem a) s.sends j)

  -- a block that isn't started sent nothing yet
  unsent : (bs : List Started) → AreStarted p limit (machine_of m) bs → (b : Started) → IsEnabled p limit bs b.chare b.block → (a : Message) → Mem a b.block.sends → Mem a (messages bs) → ⊥
  unsent bs s b e a i j =
      let by = sent_by bs a j in
      let d = by.started in
      let at = are_blocks p limit (machine_of m) bs s d by.is_in in
      let mine = origin_at b.chare (mail_to (messages bs) b.chare) b.block e.block a i in
      let its = origin_at d.chare (mail_to (messages bs) d.chare) d.block at.1 a by.is_sent in
      let there = finds bs d by.is_in in
      none_some (sym e.fresh ∙ (ap₂ (find bs) (sym mine.0 ∙ its.0) (sym mine.1 ∙ its.1) ∙ there.is))

  module _ (bs : List Started) (s : AreStarted p limit (machine_of m) bs) (b : Started) (next : IsNext (machine_of m) p limit bs b) (mails : List (List Message)) (count : length mails ≡ p.chares) (some : 1 ≤ p.chares) (is : (c : ℕ) → c < p.chares → mail_at mails c ≡ mail_to (messages bs) c) where
    proper : IsProper p b.block
    proper = run_proper p limit b.chare (mail_to (messages bs) b.chare) b.block next.candidate.enabled.block

    target : (a : Message) → Mem a b.block.sends → a.sent.to < p.chares
    target a i = let t = (proper.sends a i).target in omega (arith, t, some)

    pub targets : AreFor (length mails) b.block.sends
    targets a i = let t = target a i in omega (arith, t, count)

    -- what can be delivered is sent
    module _ (can : CanDeliver limit mails b.block.sends) where
      apart_from_all : (a y : Message) → Mem a b.block.sends → Mem y (messages bs) → one_key a y ≡ false
      apart_from_all a y i j = not_true (one_key a y) (λ e.
          let q = is_for_is y.sent.to y.sent.key a e in
          let none : mail_to (messages bs) a.sent.to a.sent.key ≡ None = ap (λ (l : Lookup). l a.sent.key) (sym (is a.sent.to (target a i))) ∙ (can.each a i).free in
          let here = hits (messages bs) (keys_apart p limit (machine_of m) bs s) y j in
          none_some (sym none ∙ (ap₂ (mail_to (messages bs)) q.0 q.1 ∙ here)))

      pub is_sent : IsSent limit bs b
      is_sent = record {
        keys = both_apart b.block.sends (messages bs) can.apart (keys_apart p limit (machine_of m) bs s) apart_from_all;
        low = λ a i. (can.each a i).low;
      }

      pub more_started : AreStarted p limit (machine_of m) (b ∷ bs)
      more_started = one_more bs b s next is_sent

    module _ (new : List (List Message)) (d : AreDelivered mails b.block.sends new) where
      pub mails_now : (c : ℕ) → c < p.chares → mail_at new c ≡ mail_to (messages (b ∷ bs)) c
      mails_now c l = d.mails c (omega (arith, l, count)) ∙ (ap (λ mail. mail_after c mail b.block.sends) (is c l) ∙ after_is c b.block.sends (messages bs))

      pub histories_are : (hs : List History) → AreHistories p limit new hs → hs ≡ histories_at p limit (b ∷ bs)
      histories_are hs are = numbered (λ c. history p limit c (mail_to (messages (b ∷ bs)) c)) p.chares 0 hs (are.count ∙ (d.count ∙ count)) (λ c l.
          are.each c (let k = d.count in omega (arith, l, k, count)) ∙ (ap (λ mail. Some (history p limit c mail)) (mails_now c l) ∙ ap (λ d. Some (history p limit d (mail_to (messages (b ∷ bs)) d))) (omega arith)))

      pub shallow : limit ≤ 262144 → CanDeliver limit mails b.block.sends → AreShallow new
      shallow few can c k x e =
          let lt = none_held new c k x e in
          let same = d.count in
          let here = found (messages (b ∷ bs)) c k x (ap (λ (l : Lookup). l k) (sym (mails_now c (omega (arith, lt, same, count)))) ∙ e) in
          let low = all_low p limit (machine_of m) (b ∷ bs) (more_started can) x here.0 in
          omega (arith, low, few)

      pub histories_kept : (hs : List History) (heard : List ℕ) → hs ≡ histories_at p limit bs → AreKept mails heard new → HoldsBut heard (length mails) (λ c. slice_get hs c ≡ history_at p limit new c)
      histories_kept hs heard e kept = but_less heard (length mails) _ _ kept (λ c l same.
          let lt : c < p.chares = omega (arith, l, count) in
          ap (λ hs. slice_get hs c) e
          ∙ (at_number (λ c. history p limit c (mail_to (messages bs) c)) p.chares 0 c lt
          ∙ (ap (λ d. Some (history p limit d (mail_to (messages bs) d))) (omega arith)
          ∙ ap (λ (l : Lookup). Some (history p limit c l)) (sym (same ∙ is c lt)))))

    -- where the verdict is Clean
    module _ (n : ℕ) (clean : CleanAt p limit n) where
      pub reached_now : IsReached p limit (machine_of m) (b ∷ bs)
      reached_now = let r = reached p limit (machine_of m) n clean bs s in goes_on bs b r (reached_clean p limit (machine_of m) n clean bs r) next

      none_of_its_key : (a : Message) → Mem a b.block.sends → (x : Message) → mail_at mails a.sent.to a.sent.key ≡ Some x → ⊥
      none_of_its_key a i x e =
          let here = found (messages bs) a.sent.to a.sent.key x (ap (λ (l : Lookup). l a.sent.key) (sym (is a.sent.to (target a i))) ∙ e) in
          let at = is_for_is a.sent.to a.sent.key x here.1 in
          let same = one_message n clean (b ∷ bs) reached_now a x (mem_left a b.block.sends (messages bs) i) (mem_right x b.block.sends (messages bs) here.0) at.0 at.1 in
          unsent bs s b next.candidate.enabled a i (subst (λ (x : Message). Mem x (messages bs)) same here.0)

      pub can_deliver : CanDeliver limit mails b.block.sends
      can_deliver =
          let r = reached p limit (machine_of m) n clean bs s in
          let e = next.candidate.enabled in
          let within = block_within p limit (mail_to (messages bs)) (chares p) b.chare b.block e.chare e.block in
          record {
            apart = apart one_key _ _ within ((reached_clean p limit (machine_of m) n clean bs r).once).sent;
            each = λ a i. record {
              free = none_if (mail_at mails a.sent.to a.sent.key) (none_of_its_key a i);
              low = closed_low p limit (round p limit n) (clean_closed p limit n clean) a (reached_sent p limit (machine_of m) n clean (b ∷ bs) reached_now a (mem_left a b.block.sends (messages bs) i));
            };
          }

      pub short : (new : List (List Message)) → AreDelivered mails b.block.sends new → AreShort p limit new
      short new d = record { each = one_short; together = λ hs are. let same = ap size_all (histories_are new d hs are) in let all = small in omega (arith, same, all) }
        where
          small : size_all (histories_at p limit (b ∷ bs)) ≤ limit
          small = (reached_clean p limit (machine_of m) n clean (b ∷ bs) reached_now).size

          one_short : (c : ℕ) → c < length new → size (history p limit c (mail_at new c)) ≤ limit
          one_short c l =
              let same = d.count in
              let lt : c < p.chares = omega (arith, l, same, count) in
              let here : slice_get (histories_at p limit (b ∷ bs)) c ≡ Some (history p limit c (mail_to (messages (b ∷ bs)) c)) = at_number (λ c. history p limit c (mail_to (messages (b ∷ bs)) c)) p.chares 0 c lt ∙ ap (λ d. Some (history p limit d (mail_to (messages (b ∷ bs)) d))) (omega arith) in
              let one = size_here (histories_at p limit (b ∷ bs)) c _ here in
              let all = small in
              subst (λ (l : Lookup). size (history p limit c l) ≤ limit) (sym (mails_now new d c lt)) (omega (arith, one, all))
