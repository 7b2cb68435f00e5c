-- The test of a log as one that can be computed; Valid.antt says what it means (docs/log.md).
use Rattle.std.specs.Prelude.{ℕ, ◌+◌, ◌^◌, ◌==◌, ℤ, pos, negsuc, Bool, true, false, ◌&&◌, ◌||◌, List, [], ◌∷◌, Option, Some, None, nat_le, nat_lt, count_by, sum_by}
use Rattle.std.specs.List.{list_all}
use Rattle.bs_log.specs.declared.history.Sent.{Sent}
use Rattle.bs_log.specs.declared.log.MailRef.{MailRef}
use Rattle.bs_log.specs.declared.log.Row.{Row}
use Rattle.bs_log.specs.declared.log.TrapRow.{TrapRow}
use Rattle.bs_log.specs.declared.log.WaitRow.{WaitRow}
use Rattle.bs_log.specs.declared.log.Log.{Log}
use Rattle.bs_log.specs.Valid.{numbered, deepest, lines_of, one_send, one_wait, is_awaited}

abbrev pub is_word : ℤ → Bool
is_word (pos n) = nat_lt n (2 ^ 63)
is_word (negsuc n) = nat_lt n (2 ^ 63)

abbrev pub is_from : ℕ → ℕ → ℕ → Bool
is_from least most n = nat_le least n && nat_le n most

-- each of a list stands so to the next one
abbrev pub chain_after : {A : Type 0} → (A → A → Bool) → A → List A → Bool
chain_after r x [] = true
chain_after r x (y ∷ ys) = r x y && chain_after r y ys

abbrev pub chain : {A : Type 0} → (A → A → Bool) → List A → Bool
chain r [] = true
chain r (x ∷ xs) = chain_after r x xs

-- there is one, and it passes
abbrev pub passes_one : {A : Type 0} → (A → Bool) → Option A → Bool
passes_one p None = false
passes_one p (Some x) = p x

-- the numbers that a row says of itself
unfoldable pub is_in_range : Row → Bool
is_in_range r = is_from 1 10000 r.stmt && (is_from 1 262144 r.depth && (is_from 1 (2 ^ 32) r.cost && list_all is_word r.emits))

unfoldable pub send_fits : Log → ℕ → Sent → Bool
send_fits l cost s = nat_lt s.to l.chares && (nat_lt s.key.entry l.entries && (is_word s.key.reference && (nat_le s.bytes (2 ^ 30) && (is_from 1 (2 ^ 32) s.offset && nat_le s.offset cost))))

abbrev pub is_of_chare : ℕ → Row → Bool
is_of_chare chare r = r.chare == chare

unfoldable pub is_block_cause : Log → ℕ → ℕ → ℕ → Bool
is_block_cause l k chare n = nat_lt n k && passes_one (is_of_chare chare) (numbered l.rows n)

abbrev pub goes_to : ℕ → Sent → Bool
goes_to chare s = s.to == chare

abbrev pub sends_to : ℕ → ℕ → Row → Bool
sends_to chare index r = passes_one (goes_to chare) (numbered r.sends index)

unfoldable pub is_mail_cause : Log → ℕ → MailRef → Bool
is_mail_cause l chare m = passes_one (sends_to chare m.index) (numbered l.rows m.row)

abbrev pub ref_is_lower : MailRef → MailRef → Bool
ref_is_lower a b = nat_lt a.row b.row || ((a.row == b.row) && nat_lt a.index b.index)

abbrev pub offset_is_up_to : Sent → Sent → Bool
offset_is_up_to a b = nat_le a.offset b.offset

-- the causes of the row of number k
unfoldable pub causes_fit : Log → ℕ → Row → Bool
causes_fit l k r = list_all (is_block_cause l k r.chare) r.after && (list_all (is_mail_cause l r.chare) r.mail && (chain nat_lt r.after && (chain ref_is_lower r.mail && (r.depth == deepest l r + 1))))

unfoldable pub row_fits : Log → ℕ → Row → Bool
row_fits l k r = is_in_range r && (nat_lt r.chare l.chares && (causes_fit l k r && (list_all (send_fits l r.cost) r.sends && chain offset_is_up_to r.sends)))

unfoldable pub rows_fit : Log → ℕ → List Row → Bool
rows_fit l k [] = true
rows_fit l k (r ∷ rs) = row_fits l k r && rows_fit l (k + 1) rs

abbrev pub trap_fits : Log → TrapRow → Bool
trap_fits l t = nat_lt t.chare l.chares && is_from 1 10000 t.stmt

-- how many sends of a row, and of rows, a wait waits for
abbrev pub awaited_by : WaitRow → Row → ℕ
awaited_by w r = count_by (is_awaited w) r.sends

abbrev pub times_awaited : WaitRow → List Row → ℕ
times_awaited w rows = sum_by (awaited_by w) rows

unfoldable pub wait_fits : Log → WaitRow → Bool
wait_fits l w = nat_lt w.chare l.chares && (is_from 1 10000 w.stmt && (nat_lt w.key.entry l.entries && (is_word w.key.reference && (times_awaited w l.rows == 0))))

abbrev pub chare_is_up_to : Row → Row → Bool
chare_is_up_to a b = nat_le a.chare b.chare

abbrev pub trap_is_lower : TrapRow → TrapRow → Bool
trap_is_lower a b = nat_lt a.chare b.chare || ((a.chare == b.chare) && nat_lt a.stmt b.stmt)

abbrev pub wait_is_up_to : WaitRow → WaitRow → Bool
wait_is_up_to a b = nat_lt a.chare b.chare || ((a.chare == b.chare) && nat_le a.stmt b.stmt)

-- how many sends of a row, and of rows, have the target and the key of this one
abbrev pub alike_by : Sent → Row → ℕ
alike_by s r = count_by (one_send s) r.sends

abbrev pub times_alike : Sent → List Row → ℕ
times_alike s rows = sum_by (alike_by s) rows

abbrev pub is_sent_once : List Row → Sent → Bool
is_sent_once rows s = nat_le (times_alike s rows) 1

abbrev pub row_sends_once : List Row → Row → Bool
row_sends_once rows r = list_all (is_sent_once rows) r.sends

abbrev pub is_awaited_once : List WaitRow → WaitRow → Bool
is_awaited_once ws w = nat_le (count_by (one_wait w) ws) 1

-- not too many chares, entries and lines
unfoldable pub has_room : Log → Bool
has_room l = is_from 1 65536 l.chares && (nat_le l.entries 1000 && nat_le (lines_of l) 262144)

-- all that stands in order
unfoldable pub is_in_order : Log → Bool
is_in_order l = chain chare_is_up_to l.rows && (chain trap_is_lower l.traps && chain wait_is_up_to l.waits)

-- rows, traps and waits, each by itself
unfoldable pub all_fit : Log → Bool
all_fit l = rows_fit l 1 l.rows && (list_all (trap_fits l) l.traps && list_all (wait_fits l) l.waits)

unfoldable pub keys_are_apart : Log → Bool
keys_are_apart l = list_all (row_sends_once l.rows) l.rows && list_all (is_awaited_once l.waits) l.waits

unfoldable pub passes : Log → Bool
passes l = has_room l && (is_in_order l && (all_fit l && keys_are_apart l))
