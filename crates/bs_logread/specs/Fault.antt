-- What is wrong with a text that is no text of a valid log: the first line that is at fault, and the rule that it breaks.
use Rattle.std.specs.Prelude.{◌≡◌, ℕ, suc, true, false, List, [], ◌++◌, length}
use Rattle.std.specs.List.{flat_map}
use Rattle.bs_log.specs.declared.log.Log.{Log}
use Rattle.bs_logtext.specs.Text.{log_text}
use Rattle.bs_logcheck.specs.declared.rule.LogRule.{LogRule}
use Rattle.bs_logcheck.specs.declared.rule.LogRule.TheVariants.{BadLine, BadReference, BadDepth, TwiceUsed, Limits}
use Rattle.bs_logcheck.specs.Rules.{IsFirstBroken}
use Rattle.bs_logread.specs.declared.lines.Line.{Line}
use Rattle.bs_logread.specs.declared.order.Progress.{Progress}
use Rattle.bs_logread.specs.declared.fault.LogFault.{LogFault}
use Rattle.bs_logread.specs.declared.fault.LogFault.TheVariants.{Refused, Memory}
use Rattle.bs_logread.specs.Line.{line_text}
use Rattle.bs_logread.specs.Lines.{log_lines}
use Rattle.bs_logread.specs.Order.{start, may_stand, is_within, IsInOrder, behind_all}

-- the bytes of lines
abbrev pub lines_text : List Line → List ℕ
lines_text xs = flat_map line_text xs

-- here no text of a log goes on: no line that may stand here begins what is left
abbrev pub NoneStands : Progress → List ℕ → Type 0
NoneStands p rest = (x : Line) (others : List ℕ) → rest ≡ line_text x ++ others → may_stand p x ≡ false

-- the text ends behind its `end`
abbrev pub IsDone : Progress → List ℕ → Type 0
IsDone p rest = (p.last ≡ 10) × (rest ≡ [])

-- The lines before this one stand where they may, and here none of the lines that may stand here does. So it is where the
-- line is cut or missing, and where bytes follow the `end`.
pub record IsUnreadable (text : List ℕ) (line : ℕ) : Type 0 where
  pub front : List Line
  pub rest : List ℕ
  pub line_is : line ≡ suc (length front)
  pub text_is : text ≡ lines_text front ++ rest
  pub in_order : IsInOrder start front
  pub more : IsDone (behind_all start front) rest → ⊥
  pub none : NoneStands (behind_all start front) rest

-- The lines before this one stand where they may, and so does this one, but with it a limit is passed.
pub record IsTooMuch (text : List ℕ) (line : ℕ) : Type 0 where
  pub front : List Line
  pub one : Line
  pub others : List ℕ
  pub line_is : line ≡ suc (length front)
  pub text_is : text ≡ lines_text front ++ (line_text one ++ others)
  pub in_order : IsInOrder start front
  pub stands : may_stand (behind_all start front) one ≡ true
  pub over : is_within (behind_all start front) one ≡ false

-- the text is that of a log, each line of which stands where it may
pub record IsRead (text : List ℕ) (log : Log) : Type 0 where
  pub text_is : text ≡ log_text log
  pub in_order : IsInOrder start (log_lines log)

-- all lines stand where they may, and this is the first one that breaks a rule between lines
pub record IsBroken (text : List ℕ) (line : ℕ) (rule : LogRule) : Type 0 where
  pub log : Log
  pub read : IsRead text log
  pub first : IsFirstBroken log line rule

-- the first fault of a text: the line, counted from 1, and the rule
abbrev pub IsFault : List ℕ → ℕ → LogRule → Type 0
IsFault text line BadLine = IsUnreadable text line
IsFault text line BadReference = IsBroken text line BadReference
IsFault text line BadDepth = IsBroken text line BadDepth
IsFault text line TwiceUsed = IsBroken text line TwiceUsed
IsFault text line Limits = IsTooMuch text line

-- a fault of one line by itself
abbrev pub IsLineFault : List ℕ → ℕ → LogRule → Type 0
IsLineFault text line BadLine = IsUnreadable text line
IsLineFault text line BadReference = ⊥
IsLineFault text line BadDepth = ⊥
IsLineFault text line TwiceUsed = ⊥
IsLineFault text line Limits = IsTooMuch text line

-- why there is no log: want of memory, or the first fault of a line by itself
abbrev pub IsLineRefusal : List ℕ → LogFault → Type 0
IsLineRefusal text (Refused line rule) = IsLineFault text line rule
IsLineRefusal text Memory = Unit {0}

abbrev pub IsRefusal : List ℕ → LogFault → Type 0
IsRefusal text (Refused line rule) = IsFault text line rule
IsRefusal text Memory = Unit {0}

-- the line of this number, at the front of what is left, doesn't stand where it may, or passes a limit
abbrev pub Stops : Progress → List ℕ → LogRule → Type 0
Stops p rest BadLine = NoneStands p rest
Stops p rest BadReference = ⊥
Stops p rest BadDepth = ⊥
Stops p rest TwiceUsed = ⊥
Stops p rest Limits = (x : Line) × (others : List ℕ) × (rest ≡ line_text x ++ others) × (may_stand p x ≡ true) × (is_within p x ≡ false)

abbrev pub StopsAt : Progress → List ℕ → ℕ → LogFault → Type 0
StopsAt p rest number (Refused line rule) = (line ≡ number) × Stops p rest rule
StopsAt p rest number Memory = ⊥
