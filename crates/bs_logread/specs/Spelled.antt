-- How one line is read: exactly the lines that are spelled so, with each number in its range.
use Rattle.std.specs.Prelude.{ℕ, ◌^◌, ◌-◌, ◌==◌, List, [], ◌∷◌, Option, Some, None, codes, if◌then◌else◌}
use Rattle.bs_log.specs.declared.history.TrapKind.{TrapKind}
use Rattle.bs_log.specs.declared.history.TrapKind.TheVariants.{Overflow, ZeroDivisor, Index, Target, WorkRange, BytesRange, CostRange, Steps}
use Rattle.bs_logread.specs.declared.lines.Line.{Line}
use Rattle.bs_logread.specs.declared.lines.Line.TheVariants as l
use Rattle.bs_logread.specs.Words.{◌>>=◌, behind, number_of, number_before, signed_of, signed_before}

-- the reason to stop of a number from 1 to 8
abbrev pub kind_of : ℕ → TrapKind
kind_of n =
    if n == 1 then Overflow
    else (if n == 2 then ZeroDivisor
    else (if n == 3 then Index
    else (if n == 4 then Target
    else (if n == 5 then WorkRange
    else (if n == 6 then BytesRange
    else (if n == 7 then CostRange
    else Steps))))))

unfoldable pub counts_of : List ℕ → Option Line
counts_of text = do
  chares ← number_before 0 (2 ^ 32 - 1) text
  t ← behind (codes "entries ") chares.1
  entries ← number_before 0 (2 ^ 32 - 1) t
  u ← behind (codes "rows ") entries.1
  rows ← number_of 0 (2 ^ 32 - 1) u
  Some (l.Counts (record { chares = chares.0; entries = entries.0; rows = rows }))

unfoldable pub row_of : List ℕ → Option Line
row_of text = do
  chare ← number_before 0 (2 ^ 32 - 1) text
  stmt ← number_before 1 10000 chare.1
  depth ← number_before 1 262144 stmt.1
  cost ← number_of 1 (2 ^ 32) depth.1
  Some (l.Row (record { chare = chare.0; stmt = stmt.0; depth = depth.0; cost = cost }))

unfoldable pub after_of : List ℕ → Option Line
after_of text = do
  row ← number_of 0 (2 ^ 32 - 1) text
  Some (l.After row)

unfoldable pub mail_of : List ℕ → Option Line
mail_of text = do
  row ← number_before 0 (2 ^ 32 - 1) text
  index ← number_of 0 (2 ^ 32 - 1) row.1
  Some (l.Mail (record { row = row.0; index = index }))

unfoldable pub emit_of : List ℕ → Option Line
emit_of text = do
  value ← signed_of text
  Some (l.Emit value)

unfoldable pub send_of : List ℕ → Option Line
send_of text = do
  to ← number_before 0 (2 ^ 32 - 1) text
  entry ← number_before 0 (2 ^ 32 - 1) to.1
  reference ← signed_before entry.1
  bytes ← number_before 0 (2 ^ 30) reference.1
  offset ← number_of 1 (2 ^ 32) bytes.1
  Some (l.Send (record { to = to.0; key = record { entry = entry.0; reference = reference.0 }; bytes = bytes.0; offset = offset }))

unfoldable pub trap_of : List ℕ → Option Line
trap_of text = do
  chare ← number_before 0 (2 ^ 32 - 1) text
  stmt ← number_before 1 10000 chare.1
  kind ← number_of 1 8 stmt.1
  Some (l.Trap (record { chare = chare.0; stmt = stmt.0; kind = kind_of kind }))

unfoldable pub wait_of : List ℕ → Option Line
wait_of text = do
  chare ← number_before 0 (2 ^ 32 - 1) text
  stmt ← number_before 1 10000 chare.1
  entry ← number_before 0 (2 ^ 32 - 1) stmt.1
  reference ← signed_of entry.1
  Some (l.Wait (record { chare = chare.0; stmt = stmt.0; key = record { entry = entry.0; reference = reference } }))

-- a line that is one word alone
abbrev pub alone : Line → Option (List ℕ) → Option Line
alone line (Some []) = Some line
alone line (Some (b ∷ bs)) = None
alone line None = None

-- the first reading where the word is there, and otherwise the next one
abbrev pub either : Option (List ℕ) → (List ℕ → Option Line) → Option Line → Option Line
either (Some rest) f next = f rest
either None f next = next

-- the line of a text without its line feed
unfoldable pub line_of : List ℕ → Option Line
line_of text =
    either (behind (codes "row ") text) row_of
    (either (behind (codes "after ") text) after_of
    (either (behind (codes "mail ") text) mail_of
    (either (behind (codes "emit ") text) emit_of
    (either (behind (codes "send ") text) send_of
    (either (behind (codes "trap ") text) trap_of
    (either (behind (codes "wait ") text) wait_of
    (either (behind (codes "chares ") text) counts_of
    (either (behind (codes "bslog 1") text) (λ rest. alone l.Version (Some rest))
    (alone l.End (behind (codes "end") text))))))))))
