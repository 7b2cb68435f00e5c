-- What a log that can be kept as a text is like: each number in its range, not too many lines, and causes, sends and waits
-- that fit one another (docs/log.md).
use Rattle.std.specs.Prelude.{◌≡◌, ◌⊎◌, ◌≤◌, ◌<◌, ℕ, suc, ◌+◌, ◌-◌, ◌^◌, ◌==◌, ℤ, pos, negsuc, Bool, false, ◌&&◌, if◌then◌else◌, List, [], ◌∷◌, Option, Some, None, max, length, sum_by, slice_get}
use Rattle.std.specs.List.{flat_map, fold}
use Rattle.bs_log.specs.declared.history.Sent.{Sent}
use Rattle.bs_log.specs.declared.log.MailRef.{MailRef}
use Rattle.bs_log.specs.declared.log.Row.{Row}
use Rattle.bs_log.specs.declared.log.TrapRow.{TrapRow}
use Rattle.bs_log.specs.declared.log.WaitRow.{WaitRow}
use Rattle.bs_log.specs.declared.log.Log.{Log}
use Rattle.bs_log.specs.Messages.{same_key}
use Rattle.bs_log.specs.Rising.{RowRises}
use Rattle.bs_log.specs.Lists.{Mem, Apart, InOrder}

-- a number of 64 bits with its sign
abbrev pub IsWord : ℤ → Type 0
IsWord (pos n) = n < 2 ^ 63
IsWord (negsuc n) = n < 2 ^ 63

-- from the first number to the second
pub record IsFrom (least most n : ℕ) : Type 0 where
  pub least_is : least ≤ n
  pub most_is : n ≤ most

-- the number of a statement, of which a program has at most 10,000
abbrev pub IsStmt : ℕ → Type 0
IsStmt = IsFrom 1 10000

-- what a row says of itself: its statement, its depth, its cost, and the values that it emits
pub record RowIsInRange (r : Row) : Type 0 where
  pub stmt : IsStmt r.stmt
  pub depth : IsFrom 1 262144 r.depth
  pub cost : IsFrom 1 (2 ^ 32) r.cost
  pub emits : (v : ℤ) → Mem v r.emits → IsWord v

-- a send in a row of this cost goes to one of the chares and to one of the entries; its offset is at most the cost
pub record SendFits (l : Log) (cost : ℕ) (s : Sent) : Type 0 where
  pub target : s.to < l.chares
  pub entry : s.key.entry < l.entries
  pub reference : IsWord s.key.reference
  pub bytes : s.bytes ≤ 2 ^ 30
  pub offset : IsFrom 1 (2 ^ 32) s.offset
  pub within : s.offset ≤ cost

-- the item of a number, counted from 1, if there is one
abbrev pub numbered : {A : Type 0} → List A → ℕ → Option A
numbered xs n = if n == 0 then None else slice_get xs (n - 1)

-- there is one, and P holds of it
abbrev pub Holds : {A : Type 0} → (A → Type 0) → Option A → Type 0
Holds P None = ⊥
Holds P (Some x) = P x

-- a block cause of the row of number k is an earlier row of the same chare
pub record IsBlockCause (l : Log) (k chare n : ℕ) : Type 0 where
  pub earlier : n < k
  pub same_chare : Holds (λ r. r.chare ≡ chare) (numbered l.rows n)

-- the row and the send of a message cause are there, and the send goes to this chare
abbrev pub IsMailCause : Log → ℕ → MailRef → Type 0
IsMailCause l chare m = Holds (λ r. Holds (λ s. s.to ≡ chare) (numbered r.sends m.index)) (numbered l.rows m.row)

-- the depth of the row of a number, and 0 where there is none
abbrev pub row_depth : Option Row → ℕ
row_depth None = 0
row_depth (Some r) = r.depth

-- the greatest depth of the rows that the causes of a row name, and 0 without any
abbrev pub deepest : Log → Row → ℕ
deepest l r = fold (λ d m. max d (row_depth (numbered l.rows m.row))) (fold (λ d n. max d (row_depth (numbered l.rows n))) 0 r.after) r.mail

-- the row of number k: its causes are rows and sends that are there, in rising order, and its depth is 1 more than the
-- deepest of them; its sends stand in the order of their offsets
pub record RowFits (l : Log) (k : ℕ) (r : Row) : Type 0 where
  pub ranges : RowIsInRange r
  pub chare : r.chare < l.chares
  pub after : (n : ℕ) → Mem n r.after → IsBlockCause l k r.chare n
  pub mail : (m : MailRef) → Mem m r.mail → IsMailCause l r.chare m
  pub rises : RowRises r
  pub depth : r.depth ≡ suc (deepest l r)
  pub sends : (s : Sent) → Mem s r.sends → SendFits l r.cost s
  pub offsets : InOrder (λ a b. a.offset ≤ b.offset) r.sends

-- P holds of each with its number, from k on
abbrev pub EachFrom : {A : Type 0} → (ℕ → A → Type 0) → ℕ → List A → Type 0
EachFrom P k [] = Unit {0}
EachFrom P k (x ∷ xs) = P k x × EachFrom P (k + 1) xs

-- what all rows send, in their order
abbrev pub sends_in : List Row → List Sent
sends_in rows = flat_map (λ r. r.sends) rows

-- a key that goes to one chare twice
abbrev pub one_send : Sent → Sent → Bool
one_send a b = (b.to == a.to) && same_key b.key a.key

-- a key that one chare waits for twice
abbrev pub one_wait : WaitRow → WaitRow → Bool
one_wait a b = (b.chare == a.chare) && same_key b.key a.key

-- a send that a wait waits for
abbrev pub is_awaited : WaitRow → Sent → Bool
is_awaited w s = (s.to == w.chare) && same_key s.key w.key

pub record TrapFits (l : Log) (t : TrapRow) : Type 0 where
  pub chare : t.chare < l.chares
  pub stmt : IsStmt t.stmt

-- nothing that a wait waits for is sent
pub record WaitFits (l : Log) (w : WaitRow) : Type 0 where
  pub chare : w.chare < l.chares
  pub stmt : IsStmt w.stmt
  pub entry : w.key.entry < l.entries
  pub reference : IsWord w.key.reference
  pub lacks : (s : Sent) → Mem s (sends_in l.rows) → is_awaited w s ≡ false

-- traps are ordered by (chare, statement)
abbrev pub TrapIsLower : TrapRow → TrapRow → Type 0
TrapIsLower a b = (a.chare < b.chare) ⊎ ((a.chare ≡ b.chare) × (a.stmt < b.stmt))

-- waits too, and several may stand at one statement
abbrev pub WaitIsUpTo : WaitRow → WaitRow → Type 0
WaitIsUpTo a b = (a.chare < b.chare) ⊎ ((a.chare ≡ b.chare) × (a.stmt ≤ b.stmt))

-- how many lines a row takes: its own, and one for each cause, value and send
abbrev pub row_lines : Row → ℕ
row_lines r = 1 + length r.after + length r.mail + length r.emits + length r.sends

-- how many lines a log takes, but for the first two and the last
abbrev pub lines_of : Log → ℕ
lines_of l = sum_by row_lines l.rows + length l.traps + length l.waits

-- a log is valid: there are not too many chares, entries and lines; rows, traps and waits fit, and stand in their order; and
-- no key is sent to a chare twice, or waited for twice
pub record IsValid (l : Log) : Type 0 where
  pub chares : IsFrom 1 65536 l.chares
  pub entries : l.entries ≤ 1000
  pub lines : lines_of l ≤ 262144
  pub rows : EachFrom (RowFits l) 1 l.rows
  pub row_order : InOrder (λ a b. a.chare ≤ b.chare) l.rows
  pub traps : (t : TrapRow) → Mem t l.traps → TrapFits l t
  pub trap_order : InOrder TrapIsLower l.traps
  pub waits : (w : WaitRow) → Mem w l.waits → WaitFits l w
  pub wait_order : InOrder WaitIsUpTo l.waits
  pub sent_once : Apart one_send (sends_in l.rows)
  pub awaited_once : Apart one_wait l.waits
