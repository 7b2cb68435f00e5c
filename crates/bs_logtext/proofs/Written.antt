-- The log of an accepted program's closed histories is valid, where its numbers are of 64 bits.
use Rattle.std.proofs.Common.{◌≡◌, ◌≤◌, ℕ, zero, suc, ◌+◌, Bool, true, false, ℤ, List, [], ◌∷◌, ◌++◌, None, refl, sym, subst, ◌∙◌, length, map, arith}
use Rattle.bs_tree.specs.declared.tree.Program.{Program}
use Rattle.bs_log.specs.declared.history.Message.{Message}
use Rattle.bs_log.specs.declared.history.Block.{Block}
use Rattle.bs_log.specs.declared.history.WaitAt.{WaitAt}
use Rattle.bs_log.specs.declared.history.History.{History}
use Rattle.bs_log.specs.declared.log.Log.{Log}
use Rattle.bs_log.specs.Messages.{sent}
use Rattle.bs_log.specs.Collected.{row_of, wait_row, waits_from, log_of}
use Rattle.bs_log.specs.Linked.{IsAt}
use Rattle.bs_log.specs.Valid.{IsWord, IsValid}
use Rattle.bs_log.specs.Lists.{Mem}
use Rattle.bs_log.proofs.ClosedTests.{in_front, behind, its_block, its_history}
use Rattle.bs_semantics.specs.Run.{history}
use Rattle.bs_semantics.specs.Rounds.{Closed, mail_to}
use Rattle.bs_semantics.specs.Verdict.{Verdict, clean, twice, too_long, IsVerdict, is_clean, is_twice, is_too_long}
use Rattle.bs_semantics.proofs.Confluence.{clean_closed}
use Rattle.bs_check.specs.Declarations.{declared_names, has_twice, is_within}
use Rattle.bs_check.specs.Refusal.{refusal, IsWhole}
use Rattle.bs_check.proofs.Verdict.{twice_refused, limits_refused}
use Rattle.bs_check.proofs.Fitting.{Fitting, fitting}
use Rattle.bs_logtext.specs.Declared.{IsKey, AreDeclared, AreEntries, HasWords}
use Rattle.bs_logtext.proofs.Keys.{entries_named}
use Rattle.bs_logtext.proofs.Whole.{at_under, place_of, map_mem, row_member, whole}

-- an accepted program keeps the limits
kept : (p : Program) → refusal p ≡ None → Fitting p
kept p e = fitting p (by_limits (is_within p) (has_twice (declared_names p)) refl refl)
  where
    by_limits : (s t : Bool) → is_within p ≡ s → has_twice (declared_names p) ≡ t → is_within p ≡ true
    by_limits true t i h = i
    by_limits false true i h = let q = sym e ∙ twice_refused p h in absurd (cc)
    by_limits false false i h = let q = sym e ∙ limits_refused p h i in absurd (cc)

wait_member : (hs : List History) (k j c : ℕ) (h : History) (w : WaitAt) → c ≡ k + j → IsAt hs j h → Mem w h.waits → Mem (wait_row c w) (waits_from k hs)
wait_member [] k j c h w e t m = absurd t
wait_member (y ∷ ys) k zero c h w e t m =
    let here : k ≡ c = omega arith in
    subst (λ z. Mem (wait_row z w) (map (wait_row k) y.waits ++ waits_from (k + 1) ys)) here
    (in_front (wait_row k w) (map (wait_row k) y.waits) (waits_from (k + 1) ys) (map_mem (wait_row k) y.waits w (subst (λ (z : History). Mem w z.waits) (sym t) m)))
wait_member (y ∷ ys) k (suc j) c h w e t m = behind (wait_row c w) (map (wait_row k) y.waits) (waits_from (k + 1) ys) (wait_member ys (k + 1) j c h w (omega arith) t m)

module _ (p : Program) (limit : ℕ) (hs : List History) (ok : refusal p ≡ None) (closed : Closed p limit hs) (words : HasWords (log_of hs (length p.entries))) where
  named : (c : ℕ) (h : History) → IsAt hs c h → AreEntries (length p.entries) h
  named c h t =
      let is = at_under (λ d. history p limit d (mail_to (sent hs) d)) p.chares 0 c h (subst (λ z. IsAt z c h) closed.same t) in
      subst (AreEntries (length p.entries)) is (entries_named p limit (0 + c) (mail_to (sent hs) (0 + c)) ok)

  in_log : (c : ℕ) (h : History) (x : Block) → IsAt hs c h → Mem x h.blocks → Mem (row_of hs c x) (log_of hs (length p.entries)).rows
  unfolding log_of
  in_log c h x t m = row_member hs hs 0 c c h x (omega arith) t m

  sent_word : (c : ℕ) (h : History) (x : Block) (m : Message) → IsAt hs c h → Mem x h.blocks → Mem m x.sends → IsWord m.sent.key.reference
  unfolding row_of
  sent_word c h x m t i k = words.sent (row_of hs c x) (in_log c h x t i) m.sent (map_mem (λ (n : Message). n.sent) x.sends m k)

  sent_key : (m : Message) → Mem m (sent hs) → IsKey (length p.entries) m.sent.key
  sent_key m i =
      let h = its_history hs m i in
      let x = its_block (h.one).blocks m h.holds in
      let at = place_of hs h.one h.is_in in
      record {
        entry = (named at.0 h.one at.1).sent x.one x.is_in m x.holds;
        reference = sent_word at.0 h.one x.one m at.1 x.is_in x.holds;
      }

  waited_word : (c : ℕ) (h : History) (w : WaitAt) → IsAt hs c h → Mem w h.waits → IsWord w.key.reference
  unfolding log_of
  waited_word c h w t i = words.waited (wait_row c w) (wait_member hs 0 c c h w (omega arith) t i)

  emitted_word : (c : ℕ) (h : History) (x : Block) (v : ℤ) → IsAt hs c h → Mem x h.blocks → Mem v x.emits → IsWord v
  unfolding row_of
  emitted_word c h x v t i k = words.emitted (row_of hs c x) (in_log c h x t i) v k

  declared : AreDeclared (length p.entries) hs
  declared = record {
    sent = sent_key;
    waited = λ h m w i. let at = place_of hs h m in record { entry = (named at.0 h at.1).waited w i; reference = waited_word at.0 h w at.1 i };
    emitted = λ h m x i v k. let at = place_of hs h m in emitted_word at.0 h x v at.1 i k;
  }

  pub closed_written : limit ≤ 262144 → IsWhole p → IsValid (log_of hs (length p.entries))
  closed_written small text =
      let fits = kept p ok in
      whole p limit hs small fits.least fits.most fits.entries text.statements declared closed

abbrev ClosedWhere : Program → ℕ → Verdict → Type 0
ClosedWhere p limit (clean hs) = Closed p limit hs
ClosedWhere p limit (twice t) = Unit {0}
ClosedWhere p limit too_long = Unit {0}

verdict_closed : (p : Program) (limit : ℕ) (v : Verdict) → IsVerdict p limit v → ClosedWhere p limit v
verdict_closed p limit _ (is_too_long n b l) = tt
verdict_closed p limit _ (is_twice n b l t e) = tt
verdict_closed p limit _ (is_clean n c) = clean_closed p limit n c

pub log_written : (p : Program) (limit : ℕ) (hs : List History) → limit ≤ 262144 → IsWhole p → refusal p ≡ None → Closed p limit hs → HasWords (log_of hs (length p.entries)) → IsValid (log_of hs (length p.entries))
log_written p limit hs small text ok closed words = closed_written p limit hs ok closed words small text

pub verdict_written : (p : Program) (limit : ℕ) (hs : List History) (log : Log) → limit ≤ 262144 → IsWhole p → refusal p ≡ None → IsVerdict p limit (clean hs) → log ≡ log_of hs (length p.entries) → HasWords log → IsValid log
verdict_written p limit hs log small text ok verdict e words =
    subst IsValid (sym e) (log_written p limit hs small text ok (verdict_closed p limit (clean hs) verdict) (subst HasWords e words))
