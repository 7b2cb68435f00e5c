-- How the first line that breaks a rule is sought: line by line, with what was seen so far.
use Rattle.std.specs.Prelude.{◌≡◌, ◌↔◌, ℕ, ◌+◌, Bool, List, [], ◌∷◌, Option, Some, None, length, sum_by}
use Rattle.std.specs.Option.{option_or}
use Rattle.bs_log.specs.declared.history.Sent.{Sent}
use Rattle.bs_log.specs.declared.log.Row.{Row}
use Rattle.bs_log.specs.declared.log.WaitRow.{WaitRow}
use Rattle.bs_log.specs.declared.log.Log.{Log}
use Rattle.bs_log.specs.Valid.{row_lines}
use Rattle.bs_logcheck.specs.declared.rule.LogRule.{LogRule}
use Rattle.bs_logcheck.specs.declared.rule.Broken.{Broken}
use Rattle.bs_logcheck.specs.declared.place.Place.{Place}
use Rattle.bs_logcheck.specs.Lines.{Line, AfterLine, MailLine, TrapLine, each_line}
use Rattle.bs_logcheck.specs.Rules.{IsFirstBroken, IsSound}
use Rattle.bs_logcheck.specs.Places.{goal_of, spot_of, nowhere, with_place, with_places}
use Rattle.bs_logcheck.specs.Faults.{row_fault, send_fault, wait_fault, with_rows, fault}

-- a rule that the line of a number breaks, and otherwise what comes later
abbrev pub or_later : ℕ → Option LogRule → Option Broken → Option Broken
or_later line None later = later
or_later line (Some rule) later = Some (record { line = line; rule = rule })

-- among lines, the first of which has this number
abbrev pub first_from : Log → ℕ → List Line → Option Broken
first_from l line [] = None
first_from l line (x ∷ xs) = or_later line (fault l x) (first_from l (line + 1) xs)

-- among the sends of a row
abbrev pub first_send : Log → Row → (Place → Bool) → Option Sent → ℕ → List Sent → Option Broken
first_send l r seen before line [] = None
first_send l r seen before line (s ∷ ss) = or_later line (send_fault l r seen before s) (first_send l r (with_place seen (goal_of s)) (Some s) (line + 1) ss)

-- among the lines of the row of number k
unfoldable pub first_in_row : Log → ℕ → Option ℕ → (Place → Bool) → ℕ → Row → Option Broken
first_in_row l k before seen line r = or_later line (row_fault l before r)
    (option_or (first_from l (line + 1) (each_line (AfterLine k r) None r.after))
    (option_or (first_from l (line + 1 + length r.after) (each_line (MailLine r) None r.mail))
    (first_send l r seen None (line + 1 + length r.after + length r.mail + length r.emits) r.sends)))

-- among the lines of rows, the first of which has the number k
abbrev pub first_in_rows : Log → ℕ → Option ℕ → (Place → Bool) → ℕ → List Row → Option Broken
first_in_rows l k before seen line [] = None
first_in_rows l k before seen line (r ∷ rs) = option_or (first_in_row l k before seen line r) (first_in_rows l (k + 1) (Some r.chare) (with_places goal_of seen r.sends) (line + row_lines r) rs)

-- among waits
abbrev pub first_wait : Log → (Place → Bool) → (Place → Bool) → Option WaitRow → ℕ → List WaitRow → Option Broken
first_wait l sent seen before line [] = None
first_wait l sent seen before line (w ∷ ws) = or_later line (wait_fault l sent seen before w) (first_wait l sent (with_place seen (spot_of w)) (Some w) (line + 1) ws)

-- among all lines, the first of which is line 3
unfoldable pub first_of : Log → Option Broken
first_of l =
    let traps = 3 + sum_by row_lines l.rows in
    option_or (first_in_rows l 1 None nowhere 3 l.rows)
    (option_or (first_from l traps (each_line TrapLine None l.traps))
    (first_wait l (with_rows nowhere l.rows) nowhere None (traps + length l.traps) l.waits))

-- what is found: nothing exactly where the log is sound, and otherwise exactly the first line that breaks a rule, with the
-- least rule that it breaks
pub record Finds (l : Log) (found : Option Broken) : Type 0 where
  pub sound : (found ≡ None) ↔ IsSound l
  pub first : (n : ℕ) (r : LogRule) → (found ≡ Some (record { line = n; rule = r })) ↔ IsFirstBroken l n r
