-- The test of a log decides what it means.
use Rattle.std.proofs.Common.{◌≡◌, ◌≤◌, ◌<◌, ◌⊎◌, inl, inr, ℕ, ◌+◌, ◌^◌, ◌==◌, ℤ, pos, negsuc, Bool, true, List, [], ◌∷◌, Option, Some, None, refl, sym, ap, subst, ◌∙◌, nat_le, nat_lt, sum_by, count_by, arith}
use Rattle.std.specs.Bool.{Decides}
use Rattle.std.specs.List.{list_all}
use Rattle.std.proofs.lemmas.Bool.{false≢true}
use Rattle.std.proofs.lemmas.Bool.Decides.{Decides-and, Decides-or, Decides-like, Decides-at, Decides-eqb, nat_tests}
use Rattle.std.proofs.lemmas.Cmp.{nat_eq_equiv}
use Rattle.std.proofs.lemmas.List.Sums.{sum_by-cons, sum_by-append}
use Rattle.bs_log.specs.declared.history.Sent.{Sent}
use Rattle.bs_log.specs.declared.log.MailRef.{MailRef}
use Rattle.bs_log.specs.declared.log.Row.{Row}
use Rattle.bs_log.specs.declared.log.TrapRow.{TrapRow}
use Rattle.bs_log.specs.declared.log.WaitRow.{WaitRow}
use Rattle.bs_log.specs.declared.log.Log.{Log}
use Rattle.bs_log.specs.Rising.{IsLower}
use Rattle.bs_log.specs.Valid.{IsWord, IsFrom, RowIsInRange, SendFits, numbered, Holds, IsBlockCause, IsMailCause, deepest, RowFits, EachFrom, sends_in, one_send, one_wait, is_awaited, TrapFits, WaitFits, TrapIsLower, WaitIsUpTo, lines_of, IsValid}
use Rattle.bs_log.specs.ValidTest.{chain, is_word, is_from, passes_one, is_in_range, send_fits, is_of_chare, is_block_cause, goes_to, sends_to, is_mail_cause, ref_is_lower, offset_is_up_to, causes_fit, row_fits, rows_fit, trap_fits, wait_fits, chare_is_up_to, trap_is_lower, wait_is_up_to, is_sent_once, row_sends_once, is_awaited_once, has_room, is_in_order, all_fit, keys_are_apart, passes}
use Rattle.bs_log.specs.Lists.{Mem, Apart, InOrder}
use Rattle.bs_log.proofs.Decided.{le_is, all_each, none_is, apart_from, apart_to}
use Rattle.bs_log.proofs.ClosedTests.{both_true, and_alike, key_itself, key_symm, either, in_front, behind}
use Rattle.bs_log.proofs.Chains.{in_order_is}

pub lt_decides : (a b : ℕ) → Decides (nat_lt a b) (a < b)
lt_decides a b = (λ e. grind (arith, nat_tests), λ h. grind (arith, nat_tests))

word_is : (z : ℤ) → Decides (is_word z) (IsWord z)
word_is (pos n) = lt_decides n (2 ^ 63)
word_is (negsuc n) = lt_decides n (2 ^ 63)

from_is : (least most n : ℕ) → Decides (is_from least most n) (IsFrom least most n)
from_is least most n = Decides-like _ (λ h. record { least_is = h.0; most_is = h.1 }) (λ r. (r.least_is, r.most_is)) (Decides-and _ _ (le_is least n) (le_is n most))

one_is : {A : Type 0} (p : A → Bool) (P : A → Type 0) → ((x : A) → Decides (p x) (P x)) → (o : Option A) → Decides (passes_one p o) (Holds P o)
one_is p P d None = (λ e. absurd (false≢true e), λ h. absurd h)
one_is p P d (Some x) = d x

-- what a row says of itself

range_is : (r : Row) → Decides (is_in_range r) (RowIsInRange r)
unfolding is_in_range
range_is r = Decides-like _
    (λ h. record { stmt = h.0; depth = (h.1).0; cost = ((h.1).1).0; emits = ((h.1).1).1 })
    (λ k. (k.stmt, (k.depth, (k.cost, k.emits))))
    (Decides-and _ _ (from_is 1 10000 r.stmt) (Decides-and _ _ (from_is 1 262144 r.depth) (Decides-and _ _ (from_is 1 (2 ^ 32) r.cost) (all_each is_word IsWord word_is r.emits))))

send_is : (l : Log) (cost : ℕ) (s : Sent) → Decides (send_fits l cost s) (SendFits l cost s)
unfolding send_fits
send_is l cost s = Decides-like _
    (λ h. record { target = h.0; entry = (h.1).0; reference = ((h.1).1).0; bytes = (((h.1).1).1).0; offset = ((((h.1).1).1).1).0; within = ((((h.1).1).1).1).1 })
    (λ k. (k.target, (k.entry, (k.reference, (k.bytes, (k.offset, k.within))))))
    (Decides-and _ _ (lt_decides s.to l.chares) (Decides-and _ _ (lt_decides s.key.entry l.entries) (Decides-and _ _ (word_is s.key.reference)
    (Decides-and _ _ (le_is s.bytes (2 ^ 30)) (Decides-and _ _ (from_is 1 (2 ^ 32) s.offset) (le_is s.offset cost))))))

-- causes

block_cause_is : (l : Log) (k chare n : ℕ) → Decides (is_block_cause l k chare n) (IsBlockCause l k chare n)
unfolding is_block_cause
block_cause_is l k chare n = Decides-like _ (λ h. record { earlier = h.0; same_chare = h.1 }) (λ b. (b.earlier, b.same_chare))
    (Decides-and _ _ (lt_decides n k) (one_is (is_of_chare chare) (λ r. r.chare ≡ chare) (λ r. Decides-eqb r.chare chare) (numbered l.rows n)))

mail_cause_is : (l : Log) (chare : ℕ) (m : MailRef) → Decides (is_mail_cause l chare m) (IsMailCause l chare m)
unfolding is_mail_cause
mail_cause_is l chare m = one_is (sends_to chare m.index) (λ r. Holds (λ s. s.to ≡ chare) (numbered r.sends m.index))
    (λ r. one_is (goes_to chare) (λ s. s.to ≡ chare) (λ s. Decides-eqb s.to chare) (numbered r.sends m.index)) (numbered l.rows m.row)

lower_trans : (a b c d e f : ℕ) → (a < c) ⊎ ((a ≡ c) × (b < d)) → (c < e) ⊎ ((c ≡ e) × (d < f)) → (a < e) ⊎ ((a ≡ e) × (b < f))
lower_trans a b c d e f (inl h) (inl k) = inl (omega arith)
lower_trans a b c d e f (inl h) (inr k) = inl (let i = k.0 in omega (arith, i))
lower_trans a b c d e f (inr h) (inl k) = inl (let i = h.0 in omega (arith, i))
lower_trans a b c d e f (inr h) (inr k) = inr (h.0 ∙ k.0, let i = h.1 in let j = k.1 in omega (arith, i, j))

up_to_trans : (a b c d e f : ℕ) → (a < c) ⊎ ((a ≡ c) × (b ≤ d)) → (c < e) ⊎ ((c ≡ e) × (d ≤ f)) → (a < e) ⊎ ((a ≡ e) × (b ≤ f))
up_to_trans a b c d e f (inl h) (inl k) = inl (omega arith)
up_to_trans a b c d e f (inl h) (inr k) = inl (let i = k.0 in omega (arith, i))
up_to_trans a b c d e f (inr h) (inl k) = inl (let i = h.0 in omega (arith, i))
up_to_trans a b c d e f (inr h) (inr k) = inr (h.0 ∙ k.0, let i = h.1 in let j = k.1 in omega (arith, i, j))

numbers_rise_is : (ns : List ℕ) → Decides (chain nat_lt ns) (InOrder (λ m n. m < n) ns)
numbers_rise_is = in_order_is nat_lt (λ m n. m < n) lt_decides (λ a b c h k. omega arith)

refs_rise_is : (ms : List MailRef) → Decides (chain ref_is_lower ms) (InOrder IsLower ms)
refs_rise_is = in_order_is ref_is_lower IsLower (λ a b. Decides-or _ _ (lt_decides a.row b.row) (Decides-and _ _ (Decides-eqb a.row b.row) (lt_decides a.index b.index)))
    (λ a b c. lower_trans a.row a.index b.row b.index c.row c.index)

abbrev CausesFit : Log → ℕ → Row → Type 0
CausesFit l k r = ((n : ℕ) → Mem n r.after → IsBlockCause l k r.chare n) × (((m : MailRef) → Mem m r.mail → IsMailCause l r.chare m) × (InOrder (λ m n. m < n) r.after × (InOrder IsLower r.mail × (r.depth ≡ deepest l r + 1))))

causes_fit_is : (l : Log) (k : ℕ) (r : Row) → Decides (causes_fit l k r) (CausesFit l k r)
unfolding causes_fit
causes_fit_is l k r =
    Decides-and _ _ (all_each (is_block_cause l k r.chare) (IsBlockCause l k r.chare) (block_cause_is l k r.chare) r.after)
    (Decides-and _ _ (all_each (is_mail_cause l r.chare) (IsMailCause l r.chare) (mail_cause_is l r.chare) r.mail)
    (Decides-and _ _ (numbers_rise_is r.after) (Decides-and _ _ (refs_rise_is r.mail) (Decides-eqb r.depth (deepest l r + 1)))))

-- rows

offsets_rise_is : (ss : List Sent) → Decides (chain offset_is_up_to ss) (InOrder (λ (a b : Sent). a.offset ≤ b.offset) ss)
offsets_rise_is = in_order_is offset_is_up_to (λ (a b : Sent). a.offset ≤ b.offset) (λ a b. le_is a.offset b.offset) (λ a b c h k. omega arith)

abbrev RowParts : Log → ℕ → Row → Type 0
RowParts l k r = RowIsInRange r × ((r.chare < l.chares) × (CausesFit l k r × (((s : Sent) → Mem s r.sends → SendFits l r.cost s) × InOrder (λ (a b : Sent). a.offset ≤ b.offset) r.sends)))

row_is : (l : Log) (k : ℕ) (r : Row) → Decides (row_fits l k r) (RowFits l k r)
unfolding row_fits
row_is l k r = Decides-like _ whole parts
    (Decides-and _ _ (range_is r) (Decides-and _ _ (lt_decides r.chare l.chares) (Decides-and _ _ (causes_fit_is l k r)
    (Decides-and _ _ (all_each (send_fits l r.cost) (SendFits l r.cost) (send_is l r.cost) r.sends) (offsets_rise_is r.sends)))))
  where
    whole : RowParts l k r → RowFits l k r
    whole h = let c = ((h.1).1).0 in let s = ((h.1).1).1 in let d = (((c.1).1).1).1 in record {
      ranges = h.0;
      chare = (h.1).0;
      after = c.0;
      mail = (c.1).0;
      rises = record { after = ((c.1).1).0; mail = (((c.1).1).1).0 };
      depth = omega (arith, d);
      sends = s.0;
      offsets = s.1;
    }

    parts : RowFits l k r → RowParts l k r
    parts f = let d = f.depth in (f.ranges, (f.chare, ((f.after, (f.mail, (f.rises.after, (f.rises.mail, omega (arith, d))))), (f.sends, f.offsets))))

rows_are : (l : Log) (k : ℕ) (rs : List Row) → Decides (rows_fit l k rs) (EachFrom (RowFits l) k rs)
unfolding rows_fit
rows_are l k [] = (λ e. tt, λ h. refl)
rows_are l k (r ∷ rs) = Decides-and _ _ (row_is l k r) (rows_are l (k + 1) rs)

-- sends that are counted row by row

times_by_row : (p : Sent → Bool) (rows : List Row) → sum_by (λ (r : Row). count_by p r.sends) rows ≡ count_by p (sends_in rows)
times_by_row p [] = refl
times_by_row p (r ∷ rs) = sum_by-cons (λ (r : Row). count_by p r.sends) r rs ∙ ap (λ n. count_by p r.sends + n) (times_by_row p rs) ∙ sym (sum_by-append _ r.sends (sends_in rs))

pub send_of_row : (rows : List Row) (r : Row) (s : Sent) → Mem r rows → Mem s r.sends → Mem s (sends_in rows)
send_of_row [] r s i k = absurd i
send_of_row (x ∷ xs) r s (inl e) k = in_front s x.sends (sends_in xs) (subst (λ (z : Row). Mem s z.sends) e k)
send_of_row (x ∷ xs) r s (inr i) k = behind s x.sends (sends_in xs) (send_of_row xs r s i k)

-- the row of a send
pub record SentBy (rows : List Row) (s : Sent) : Type 0 where
  pub row : Row
  pub is_in : Mem row rows
  pub sends : Mem s row.sends

pub row_of_send : (rows : List Row) (s : Sent) → Mem s (sends_in rows) → SentBy rows s
row_of_send [] s m = absurd m
row_of_send (x ∷ xs) s m = by (either s x.sends (sends_in xs) m) (row_of_send xs s)
  where
    by : Mem s x.sends ⊎ Mem s (sends_in xs) → (Mem s (sends_in xs) → SentBy xs s) → SentBy (x ∷ xs) s
    by (inl i) f = record { row = x; is_in = inl refl; sends = i }
    by (inr i) f = let b = f i in record { row = b.row; is_in = inr b.is_in; sends = b.sends }

-- traps and waits

trap_is : (l : Log) (t : TrapRow) → Decides (trap_fits l t) (TrapFits l t)
trap_is l t = Decides-like _ (λ h. record { chare = h.0; stmt = h.1 }) (λ f. (f.chare, f.stmt)) (Decides-and _ _ (lt_decides t.chare l.chares) (from_is 1 10000 t.stmt))

wait_is : (l : Log) (w : WaitRow) → Decides (wait_fits l w) (WaitFits l w)
unfolding wait_fits
wait_is l w = Decides-like _
    (λ h. record { chare = h.0; stmt = (h.1).0; entry = ((h.1).1).0; reference = (((h.1).1).1).0; lacks = (((h.1).1).1).1 })
    (λ f. (f.chare, (f.stmt, (f.entry, (f.reference, f.lacks)))))
    (Decides-and _ _ (lt_decides w.chare l.chares) (Decides-and _ _ (from_is 1 10000 w.stmt) (Decides-and _ _ (lt_decides w.key.entry l.entries) (Decides-and _ _ (word_is w.key.reference)
    (Decides-at _ _ (ap (λ n. n == 0) (times_by_row (is_awaited w) l.rows)) (none_is (is_awaited w) (sends_in l.rows)))))))

rows_in_order : (rs : List Row) → Decides (chain chare_is_up_to rs) (InOrder (λ (a b : Row). a.chare ≤ b.chare) rs)
rows_in_order = in_order_is chare_is_up_to (λ (a b : Row). a.chare ≤ b.chare) (λ a b. le_is a.chare b.chare) (λ a b c h k. omega arith)

traps_in_order : (ts : List TrapRow) → Decides (chain trap_is_lower ts) (InOrder TrapIsLower ts)
traps_in_order = in_order_is trap_is_lower TrapIsLower (λ a b. Decides-or _ _ (lt_decides a.chare b.chare) (Decides-and _ _ (Decides-eqb a.chare b.chare) (lt_decides a.stmt b.stmt)))
    (λ a b c. lower_trans a.chare a.stmt b.chare b.stmt c.chare c.stmt)

waits_in_order : (ws : List WaitRow) → Decides (chain wait_is_up_to ws) (InOrder WaitIsUpTo ws)
waits_in_order = in_order_is wait_is_up_to WaitIsUpTo (λ a b. Decides-or _ _ (lt_decides a.chare b.chare) (Decides-and _ _ (Decides-eqb a.chare b.chare) (le_is a.stmt b.stmt)))
    (λ a b c. up_to_trans a.chare a.stmt b.chare b.stmt c.chare c.stmt)

-- each key is sent and awaited once

send_itself : (s : Sent) → one_send s s ≡ true
send_itself s = both_true _ _ (nat_eq_equiv.refl s.to) (key_itself s.key)

send_symm : (a b : Sent) → one_send a b ≡ one_send b a
send_symm a b = and_alike _ _ _ _ (nat_eq_equiv.symm b.to a.to) (key_symm b.key a.key)

wait_itself : (w : WaitRow) → one_wait w w ≡ true
wait_itself w = both_true _ _ (nat_eq_equiv.refl w.chare) (key_itself w.key)

wait_symm : (a b : WaitRow) → one_wait a b ≡ one_wait b a
wait_symm a b = and_alike _ _ _ _ (nat_eq_equiv.symm b.chare a.chare) (key_symm b.key a.key)

-- the sends that are like this one, counted from either side
turned : {X : Type 0} (same : X → X → Bool) → ((a b : X) → same a b ≡ same b a) → (x : X) (xs : List X) → count_by (same x) xs ≡ count_by (λ y. same y x) xs
turned same symm x xs = ap (λ (f : _ → Bool). count_by f xs) (λ i y. symm x y i)

abbrev SentParts : List Row → Type 0
SentParts rows = (r : Row) → Mem r rows → (s : Sent) → Mem s r.sends → count_by (λ y. one_send y s) (sends_in rows) ≤ 1

sent_once_is : (rows : List Row) → Decides (list_all (row_sends_once rows) rows) (Apart one_send (sends_in rows))
sent_once_is rows = Decides-like _ whole parts
    (all_each (row_sends_once rows) (λ r. (s : Sent) → Mem s r.sends → count_by (λ y. one_send y s) (sends_in rows) ≤ 1)
    (λ r. all_each (is_sent_once rows) (λ s. count_by (λ y. one_send y s) (sends_in rows) ≤ 1)
    (λ s. Decides-at _ _ (ap (λ n. nat_le n 1) (times_by_row (one_send s) rows ∙ turned one_send send_symm s (sends_in rows))) (le_is _ 1)) r.sends) rows)
  where
    whole : SentParts rows → Apart one_send (sends_in rows)
    whole p = apart_from one_send send_itself send_symm (sends_in rows) (λ s m. let b = row_of_send rows s m in p b.row b.is_in s b.sends)

    parts : Apart one_send (sends_in rows) → SentParts rows
    parts a r i s k = apart_to one_send send_itself send_symm (sends_in rows) a s (send_of_row rows r s i k)

awaited_once_is : (ws : List WaitRow) → Decides (list_all (is_awaited_once ws) ws) (Apart one_wait ws)
awaited_once_is ws = Decides-like _ (apart_from one_wait wait_itself wait_symm ws) (apart_to one_wait wait_itself wait_symm ws)
    (all_each (is_awaited_once ws) (λ w. count_by (λ y. one_wait y w) ws ≤ 1) (λ w. Decides-at _ _ (ap (λ n. nat_le n 1) (turned one_wait wait_symm w ws)) (le_is _ 1)) ws)

-- the whole

room_is : (l : Log) → Decides (has_room l) (IsFrom 1 65536 l.chares × ((l.entries ≤ 1000) × (lines_of l ≤ 262144)))
unfolding has_room
room_is l = Decides-and _ _ (from_is 1 65536 l.chares) (Decides-and _ _ (le_is l.entries 1000) (le_is (lines_of l) 262144))

order_is : (l : Log) → Decides (is_in_order l) (InOrder (λ (a b : Row). a.chare ≤ b.chare) l.rows × (InOrder TrapIsLower l.traps × InOrder WaitIsUpTo l.waits))
unfolding is_in_order
order_is l = Decides-and _ _ (rows_in_order l.rows) (Decides-and _ _ (traps_in_order l.traps) (waits_in_order l.waits))

all_fit_is : (l : Log) → Decides (all_fit l) (EachFrom (RowFits l) 1 l.rows × (((t : TrapRow) → Mem t l.traps → TrapFits l t) × ((w : WaitRow) → Mem w l.waits → WaitFits l w)))
unfolding all_fit
all_fit_is l = Decides-and _ _ (rows_are l 1 l.rows) (Decides-and _ _ (all_each (trap_fits l) (TrapFits l) (trap_is l) l.traps) (all_each (wait_fits l) (WaitFits l) (wait_is l) l.waits))

apart_are : (l : Log) → Decides (keys_are_apart l) (Apart one_send (sends_in l.rows) × Apart one_wait l.waits)
unfolding keys_are_apart
apart_are l = Decides-and _ _ (sent_once_is l.rows) (awaited_once_is l.waits)

abbrev AllParts : Log → Type 0
AllParts l = (IsFrom 1 65536 l.chares × ((l.entries ≤ 1000) × (lines_of l ≤ 262144)))
    × ((InOrder (λ (a b : Row). a.chare ≤ b.chare) l.rows × (InOrder TrapIsLower l.traps × InOrder WaitIsUpTo l.waits))
    × ((EachFrom (RowFits l) 1 l.rows × (((t : TrapRow) → Mem t l.traps → TrapFits l t) × ((w : WaitRow) → Mem w l.waits → WaitFits l w)))
    × (Apart one_send (sends_in l.rows) × Apart one_wait l.waits)))

pub valid_is : (l : Log) → Decides (passes l) (IsValid l)
unfolding passes
valid_is l = Decides-like _ whole parts (Decides-and _ _ (room_is l) (Decides-and _ _ (order_is l) (Decides-and _ _ (all_fit_is l) (apart_are l))))
  where
    whole : AllParts l → IsValid l
    whole p = let o = (p.1).0 in let f = ((p.1).1).0 in let a = ((p.1).1).1 in record {
      chares = (p.0).0;
      entries = ((p.0).1).0;
      lines = ((p.0).1).1;
      rows = f.0;
      row_order = o.0;
      traps = (f.1).0;
      trap_order = (o.1).0;
      waits = (f.1).1;
      wait_order = (o.1).1;
      sent_once = a.0;
      awaited_once = a.1;
    }

    parts : IsValid l → AllParts l
    parts v = ((v.chares, (v.entries, v.lines)), ((v.row_order, (v.trap_order, v.wait_order)), ((v.rows, (v.traps, v.waits)), (v.sent_once, v.awaited_once))))
