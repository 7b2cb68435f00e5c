-- The lines of a log behind the first two, each with what its rules look back to (docs/log.md).
use Rattle.std.specs.Prelude.{◌≡◌, ℕ, zero, suc, ◌+◌, List, [], ◌∷◌, ◌++◌, map, Option, Some, None}
use Rattle.bs_log.specs.declared.history.Sent.{Sent}
use Rattle.bs_log.specs.declared.log.MailRef.{MailRef}
use Rattle.bs_log.specs.declared.log.Row.{Row}
use Rattle.bs_log.specs.declared.log.TrapRow.{TrapRow}
use Rattle.bs_log.specs.declared.log.WaitRow.{WaitRow}
use Rattle.bs_log.specs.declared.log.Log.{Log}

-- A row, with the chare of the row before it; a block cause of the row of a number, a message cause and a send of a row, each
-- with the one before it in this row; a value; a trap and a wait, each with the one before it. A send and a wait also have all
-- those of earlier lines, the last one first.
pub data Line : Type 0 where
  RowLine : Option ℕ → Row → Line
  AfterLine : ℕ → Row → Option ℕ → ℕ → Line
  MailLine : Row → Option MailRef → MailRef → Line
  EmitLine : Line
  SendLine : Row → List Sent → Option Sent → Sent → Line
  TrapLine : Option TrapRow → TrapRow → Line
  WaitLine : List WaitRow → Option WaitRow → WaitRow → Line

-- a line for each of a list, which looks back to the one before it
abbrev pub each_line : {A : Type 0} → (Option A → A → Line) → Option A → List A → List Line
each_line line before [] = []
each_line line before (x ∷ xs) = line before x ∷ each_line line (Some x) xs

-- the same, where a line also looks back to all those of earlier lines
abbrev pub lines_with : {A : Type 0} → (List A → Option A → A → Line) → List A → Option A → List A → List Line
lines_with line earlier before [] = []
lines_with line earlier before (x ∷ xs) = line earlier before x ∷ lines_with line (x ∷ earlier) (Some x) xs

-- the sends of a row
abbrev pub send_lines : Row → List Sent → Option Sent → List Sent → List Line
send_lines r = lines_with (SendLine r)

-- earlier ones and more of them, the last one first
abbrev pub with_more : {A : Type 0} → List A → List A → List A
with_more earlier [] = earlier
with_more earlier (x ∷ xs) = with_more (x ∷ earlier) xs

-- the row of number k: its own line, its block causes, its message causes, its values and its sends
abbrev pub lines_of_row : ℕ → Option ℕ → List Sent → Row → List Line
lines_of_row k before earlier r = RowLine before r ∷ (each_line (AfterLine k r) None r.after ++ (each_line (MailLine r) None r.mail ++ (map (λ v. EmitLine) r.emits ++ send_lines r earlier None r.sends)))

-- rows, the first of which has the number k
abbrev pub lines_of_rows : ℕ → Option ℕ → List Sent → List Row → List Line
lines_of_rows k before earlier [] = []
lines_of_rows k before earlier (r ∷ rs) = lines_of_row k before earlier r ++ lines_of_rows (k + 1) (Some r.chare) (with_more earlier r.sends) rs

abbrev pub wait_lines : List WaitRow → Option WaitRow → List WaitRow → List Line
wait_lines = lines_with WaitLine

-- the lines of the rows, then of the traps, then of the waits
abbrev pub all_lines : Log → List Line
all_lines l = lines_of_rows 1 None [] l.rows ++ (each_line TrapLine None l.traps ++ wait_lines [] None l.waits)

-- the line at a place of a list, counted from 0
abbrev pub IsAt : List Line → ℕ → Line → Type 0
IsAt [] n x = ⊥
IsAt (y ∷ ys) zero x = y ≡ x
IsAt (y ∷ ys) (suc n) x = IsAt ys n x

-- the line of a number: line 1 names the format, line 2 has the counts, and line 3 is the first of these
pub record IsLine (l : Log) (number : ℕ) (x : Line) : Type 0 where
  pub place : ℕ
  pub number_is : number ≡ 3 + place
  pub is_there : IsAt (all_lines l) place x
