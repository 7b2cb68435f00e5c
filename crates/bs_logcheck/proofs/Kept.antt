-- The least rule that a line breaks.
use Rattle.std.proofs.Common.{◌≡◌, ◌≤◌, ◌<◌, ℕ, suc, ◌+◌, ◌==◌, Bool, true, false, Option, Some, None, refl, nat_le, nat_lt, arith}
use Rattle.std.specs.Bool.{Decides}
use Rattle.std.proofs.lemmas.Bool.{false≢true}
use Rattle.std.proofs.lemmas.Bool.Decides.{Decides-and, Decides-or, Decides-like, Decides-eqb}
use Rattle.bs_log.specs.declared.history.Sent.{Sent}
use Rattle.bs_log.specs.declared.log.MailRef.{MailRef}
use Rattle.bs_log.specs.declared.log.Row.{Row}
use Rattle.bs_log.specs.declared.log.TrapRow.{TrapRow}
use Rattle.bs_log.specs.declared.log.WaitRow.{WaitRow}
use Rattle.bs_log.specs.declared.log.Log.{Log}
use Rattle.bs_log.specs.Rising.{IsLower}
use Rattle.bs_log.specs.Valid.{numbered, Holds, IsBlockCause, IsMailCause, deepest, one_send, one_wait, TrapIsLower, WaitIsUpTo}
use Rattle.bs_log.specs.ValidTest.{passes_one, is_of_chare, is_block_cause, goes_to, sends_to, is_mail_cause, ref_is_lower, offset_is_up_to, trap_is_lower, wait_is_up_to}
use Rattle.bs_log.proofs.Decided.{le_is}
use Rattle.bs_log.proofs.ValidTests.{lt_decides}
use Rattle.bs_logcheck.specs.declared.rule.LogRule.{LogRule}
use Rattle.bs_logcheck.specs.declared.rule.LogRule.TheVariants.{BadLine, BadReference, BadDepth, TwiceUsed, Limits}
use Rattle.bs_logcheck.specs.Lines.{Line, RowLine, AfterLine, MailLine, EmitLine, SendLine, TrapLine, WaitLine}
use Rattle.bs_logcheck.specs.Rules.{Follows, RowRefers, AfterRefers, MailRefers, SendRefers, TrapRefers, WaitRefers, Refers, HasDepth, IsNew, Keeps, rule_number}
use Rattle.bs_logcheck.specs.Places.{goal_of, spot_of, nowhere}
use Rattle.bs_logcheck.specs.Faults.{follows, unless, row_refers, after_refers, mail_refers, send_refers, trap_refers, wait_refers, with_rows, fault}
use Rattle.bs_logcheck.proofs.Spots.{at_send, at_wait, none_seen, lacks_is}

-- none is broken, or this is the least that is
abbrev pub IsLeast : Log → Line → Option LogRule → Type 0
IsLeast l x None = (r : LogRule) → Keeps l x r
IsLeast l x (Some r) = (Keeps l x r → ⊥) × ((s : LogRule) → (Keeps l x s → ⊥) → rule_number r ≤ rule_number s)

least : (l : Log) (x : Line) (a b c : Bool) → Decides a (Refers l x) → Decides b (HasDepth l x) → Decides c (IsNew x) → IsLeast l x (unless a BadReference (unless b BadDepth (unless c TwiceUsed None)))
least l x true true true d e f = all
  where
    all : (r : LogRule) → Keeps l x r
    all BadLine = tt
    all BadReference = d.0 refl
    all BadDepth = e.0 refl
    all TwiceUsed = f.0 refl
    all Limits = tt
least l x true true false d e f = (λ k. false≢true (f.1 k), all)
  where
    all : (s : LogRule) → (Keeps l x s → ⊥) → 4 ≤ rule_number s
    all BadLine k = absurd (k tt)
    all BadReference k = absurd (k (d.0 refl))
    all BadDepth k = absurd (k (e.0 refl))
    all TwiceUsed k = omega arith
    all Limits k = omega arith
least l x true false c d e f = (λ k. false≢true (e.1 k), all)
  where
    all : (s : LogRule) → (Keeps l x s → ⊥) → 3 ≤ rule_number s
    all BadLine k = absurd (k tt)
    all BadReference k = absurd (k (d.0 refl))
    all BadDepth k = omega arith
    all TwiceUsed k = omega arith
    all Limits k = omega arith
least l x false b c d e f = (λ k. false≢true (d.1 k), all)
  where
    all : (s : LogRule) → (Keeps l x s → ⊥) → 2 ≤ rule_number s
    all BadLine k = absurd (k tt)
    all BadReference k = omega arith
    all BadDepth k = omega arith
    all TwiceUsed k = omega arith
    all Limits k = omega arith

always : Decides true (Unit {0})
always = (λ e. tt, λ h. refl)

follows_is : {A : Type 0} (r : A → A → Bool) (R : A → A → Type 0) → ((x y : A) → Decides (r x y) (R x y)) → (o : Option A) (x : A) → Decides (follows r o x) (Follows R o x)
follows_is r R d None x = (λ e. tt, λ h. refl)
follows_is r R d (Some y) x = d y x

one_is : {A : Type 0} (p : A → Bool) (P : A → Type 0) → ((x : A) → Decides (p x) (P x)) → (o : Option A) → Decides (passes_one p o) (Holds P o)
one_is p P d None = (λ e. absurd (false≢true e), λ h. absurd h)
one_is p P d (Some x) = d x

block_cause_is : (l : Log) (k chare n : ℕ) → Decides (is_block_cause l k chare n) (IsBlockCause l k chare n)
unfolding is_block_cause
block_cause_is l k chare n = Decides-like _ (λ h. record { earlier = h.0; same_chare = h.1 }) (λ b. (b.earlier, b.same_chare))
    (Decides-and _ _ (lt_decides n k) (one_is (is_of_chare chare) (λ r. r.chare ≡ chare) (λ r. Decides-eqb r.chare chare) (numbered l.rows n)))

mail_cause_is : (l : Log) (chare : ℕ) (m : MailRef) → Decides (is_mail_cause l chare m) (IsMailCause l chare m)
unfolding is_mail_cause
mail_cause_is l chare m = one_is (sends_to chare m.index) (λ r. Holds (λ s. s.to ≡ chare) (numbered r.sends m.index))
    (λ r. one_is (goes_to chare) (λ s. s.to ≡ chare) (λ s. Decides-eqb s.to chare) (numbered r.sends m.index)) (numbered l.rows m.row)

lower_is : (a b : MailRef) → Decides (ref_is_lower a b) (IsLower a b)
lower_is a b = Decides-or _ _ (lt_decides a.row b.row) (Decides-and _ _ (Decides-eqb a.row b.row) (lt_decides a.index b.index))

trap_lower_is : (a b : TrapRow) → Decides (trap_is_lower a b) (TrapIsLower a b)
trap_lower_is a b = Decides-or _ _ (lt_decides a.chare b.chare) (Decides-and _ _ (Decides-eqb a.chare b.chare) (lt_decides a.stmt b.stmt))

wait_up_to_is : (a b : WaitRow) → Decides (wait_is_up_to a b) (WaitIsUpTo a b)
wait_up_to_is a b = Decides-or _ _ (lt_decides a.chare b.chare) (Decides-and _ _ (Decides-eqb a.chare b.chare) (le_is a.stmt b.stmt))

-- what each line refers to

row_is : (l : Log) (o : Option ℕ) (r : Row) → Decides (row_refers l o r) (RowRefers l o r)
unfolding row_refers
row_is l o r = Decides-like _ (λ h. record { chare = h.0; order = h.1 }) (λ k. (k.chare, k.order))
    (Decides-and _ _ (lt_decides r.chare l.chares) (follows_is nat_le (λ a b. a ≤ b) le_is o r.chare))

depth_is : (l : Log) (r : Row) → Decides (r.depth == deepest l r + 1) (r.depth ≡ suc (deepest l r))
depth_is l r = Decides-like _ (λ e. omega (arith, e)) (λ e. omega (arith, e)) (Decides-eqb r.depth (deepest l r + 1))

after_is : (l : Log) (k : ℕ) (r : Row) (o : Option ℕ) (n : ℕ) → Decides (after_refers l k r o n) (AfterRefers l k r o n)
unfolding after_refers
after_is l k r o n = Decides-like _ (λ h. record { cause = h.0; order = h.1 }) (λ a. (a.cause, a.order))
    (Decides-and _ _ (block_cause_is l k r.chare n) (follows_is nat_lt (λ a b. a < b) lt_decides o n))

mail_is : (l : Log) (r : Row) (o : Option MailRef) (m : MailRef) → Decides (mail_refers l r o m) (MailRefers l r o m)
unfolding mail_refers
mail_is l r o m = Decides-like _ (λ h. record { cause = h.0; order = h.1 }) (λ a. (a.cause, a.order))
    (Decides-and _ _ (mail_cause_is l r.chare m) (follows_is ref_is_lower IsLower lower_is o m))

send_is : (l : Log) (r : Row) (o : Option Sent) (s : Sent) → Decides (send_refers l r o s) (SendRefers l r o s)
unfolding send_refers
send_is l r o s = Decides-like _
    (λ h. record { target = h.0; entry = (h.1).0; order = ((h.1).1).0; within = ((h.1).1).1 })
    (λ k. (k.target, (k.entry, (k.order, k.within))))
    (Decides-and _ _ (lt_decides s.to l.chares) (Decides-and _ _ (lt_decides s.key.entry l.entries)
    (Decides-and _ _ (follows_is offset_is_up_to (λ (a b : Sent). a.offset ≤ b.offset) (λ a b. le_is a.offset b.offset) o s) (le_is s.offset r.cost))))

trap_is : (l : Log) (o : Option TrapRow) (t : TrapRow) → Decides (trap_refers l o t) (TrapRefers l o t)
unfolding trap_refers
trap_is l o t = Decides-like _ (λ h. record { chare = h.0; order = h.1 }) (λ k. (k.chare, k.order))
    (Decides-and _ _ (lt_decides t.chare l.chares) (follows_is trap_is_lower TrapIsLower trap_lower_is o t))

wait_is : (l : Log) (o : Option WaitRow) (w : WaitRow) → Decides (wait_refers l (with_rows nowhere l.rows) o w) (WaitRefers l o w)
unfolding wait_refers
wait_is l o w = Decides-like _
    (λ h. record { chare = h.0; entry = (h.1).0; order = ((h.1).1).0; lacks = ((h.1).1).1 })
    (λ k. (k.chare, (k.entry, (k.order, k.lacks))))
    (Decides-and _ _ (lt_decides w.chare l.chares) (Decides-and _ _ (lt_decides w.key.entry l.entries)
    (Decides-and _ _ (follows_is wait_is_up_to WaitIsUpTo wait_up_to_is o w) (lacks_is l.rows w))))

pub fault_is : (l : Log) (x : Line) → IsLeast l x (fault l x)
fault_is l (RowLine o r) = least l (RowLine o r) _ _ true (row_is l o r) (depth_is l r) always
fault_is l (AfterLine k r o n) = least l (AfterLine k r o n) _ true true (after_is l k r o n) always always
fault_is l (MailLine r o m) = least l (MailLine r o m) _ true true (mail_is l r o m) always always
fault_is l EmitLine = least l EmitLine true true true always always always
fault_is l (SendLine r es o s) = least l (SendLine r es o s) _ true _ (send_is l r o s) always (none_seen goal_of (goal_of s) (λ e. one_send e s) (λ e. at_send e s) es)
fault_is l (TrapLine o t) = least l (TrapLine o t) _ true true (trap_is l o t) always always
fault_is l (WaitLine es o w) = least l (WaitLine es o w) _ true _ (wait_is l o w) always (none_seen spot_of (spot_of w) (λ e. one_wait e w) (λ e. at_wait e w) es)
