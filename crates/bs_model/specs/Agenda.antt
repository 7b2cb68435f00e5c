-- How the chares wait at their processors, and the processors for their turns.
use Rattle.std.specs.Prelude.{◌≡◌, ◌<◌, ℕ, ◌==◌, max, if◌then◌else◌, List, Option, Some, None, length, slice_get, get_or}
use Rattle.bs_machine.specs.declared.fitted.Fitted.{Fitted}
use Rattle.bs_machine.specs.Fitted.{home_of, processors_of}
use Rattle.bs_model.specs.declared.agenda.Agenda.{Agenda}
use Rattle.bs_model.specs.declared.candidates.Best.{Best}
use Rattle.bs_model.specs.declared.line.Line.{Line}
use Rattle.bs_model.specs.Line.{IsFirst, IsLine, first_of}

-- the ready tick of a best block
abbrev pub ready_of : Option Best → Option ℕ
ready_of None = None
ready_of (Some b) = Some b.ready

abbrev pub ready_in : Option (Option Best) → Option ℕ
ready_in None = None
ready_in (Some best) = ready_of best

-- by which tick a chare waits at a processor
abbrev pub waits_at : Fitted → List (Option Best) → ℕ → ℕ → Option ℕ
waits_at m bests q c = if home_of m c == q then ready_in (slice_get bests c) else None

-- when the first of a line starts, after an end
abbrev pub start_of : ℕ → Option (ℕ × ℕ) → Option ℕ
start_of end None = None
start_of end (Some t) = Some (max t.0 end)

abbrev pub start_in : ℕ → Option Line → Option ℕ
start_in end None = None
start_in end (Some line) = start_of end (first_of line)

-- the start of the first of a processor's line
abbrev pub turn_at : List ℕ → List Line → ℕ → Option ℕ
turn_at ends lines q = start_in (get_or ends q 0) (slice_get lines q)

-- a line has those that wait by these ticks, and its first key is the first of them
pub record IsWhole (f : ℕ → Option ℕ) (line : Line) : Type 0 where
  pub keys : IsLine f line
  pub first : IsFirst f (first_of line)

-- a line in which none waits
abbrev pub is_idle : Option Line → Type 0
is_idle None = ⊥
is_idle (Some line) = IsWhole (λ _. None) line

abbrev pub AreIdle : ℕ → List Line → Type 0
AreIdle n lines = (length lines ≡ n) × ((q : ℕ) → q < n → is_idle (slice_get lines q))

-- no chare has a best block
abbrev pub AreNone : ℕ → List (Option Best) → Type 0
AreNone n bests = (length bests ≡ n) × ((c : ℕ) → c < n → slice_get bests c ≡ Some None)

-- each chare that has a best block waits at its processor, and each processor at which one waits has its turn
pub record IsAgenda (m : Fitted) (a : Agenda) : Type 0 where
  pub ends : length a.ends.items ≡ processors_of m
  pub bests : length a.bests.items ≡ m.chares
  pub count : length a.lines.items ≡ processors_of m
  pub lines : (q : ℕ) (line : Line) → slice_get a.lines.items q ≡ Some line → IsWhole (waits_at m a.bests.items q) line
  pub turns : IsLine (turn_at a.ends.items a.lines.items) a.turns
