-- The lines of a log, and what they hold, used and gave (docs/model.md).
use Rattle.std.specs.Prelude.{◌≡◌, ◌<◌, ℕ, Bool, true, false, List, map, length, Some, slice_get, slice_index_or}
use Rattle.bs_log.specs.declared.log.MailRef.{MailRef}
use Rattle.bs_times.specs.Net.{Net, Starts, Ticks}
use Rattle.bs_times.specs.Times.{HasLine, IsLine, arrival}
use Rattle.bs_times.specs.Racing.{World}
use Rattle.bs_schedule.specs.Plan.{at}
use Rattle.bs_line.specs.declared.line.Line.{Line}
use Rattle.bs_line.specs.Layout.{ComesTo, GoesFrom}
use Rattle.bs_line.specs.Line.{IsReady, net_at, starts_of, held_of, used_of, given_of}

-- the starts are the line's table over the ticks that it used last, and it gave the arrivals by them
pub record IsCurrent (net : Net) (line : Line) : Type 0 where
  pub table : IsLine net line.processor (used_of line) (starts_of line)
  pub gave : (m : MailRef) → GoesFrom net line.processor m → given_of line m ≡ arrival net (starts_of line) m

-- the line was recomputed from the ticks that it holds
pub record IsFresh (net : Net) (line : Line) : Type 0 where
  pub begun : line.begun ≡ true
  pub used : (m : MailRef) → ComesTo net line.processor m → used_of line m ≡ held_of line m

-- a line of the net, with rows
pub record IsLineOf (net : Net) (line : Line) : Type 0 where
  pub ready : IsReady line
  pub same : net_at line ≡ net
  pub has : HasLine net line.processor
  pub current : line.begun ≡ true → IsCurrent net line

-- one line for each processor that has a row, at the place that stands there for the processor
pub record AreLines (net : Net) (places : List ℕ) (lines : List Line) : Type 0 where
  pub each : (k : ℕ) (line : Line) → slice_get lines k ≡ Some line → IsLineOf net line × (at places line.processor ≡ k)
  pub within : (p : ℕ) → HasLine net p → (p < length places) × (at places p < length lines)
  pub there : (p : ℕ) → HasLine net p → (line : Line) → slice_get lines (at places p) ≡ Some line → line.processor ≡ p

-- ---- what is known of a message by the lines that it goes to and comes from, and of a row by its line

abbrev pub held_in : Net → List ℕ → List Line → Ticks
held_in net places lines m = at (map (λ line. held_of line m) lines) (at places (net.goes_to m))

abbrev pub used_in : Net → List ℕ → List Line → Ticks
used_in net places lines m = at (map (λ line. used_of line m) lines) (at places (net.goes_to m))

abbrev pub given_in : Net → List ℕ → List Line → Ticks
given_in net places lines m = at (map (λ line. given_of line m) lines) (at places (net.home m.row))

abbrev pub starts_in : Net → List ℕ → List Line → Starts
starts_in net places lines i = at (map (λ line. starts_of line i) lines) (at places (net.home i))

abbrev pub begun_in : List ℕ → List Line → ℕ → Bool
begun_in places lines p = slice_index_or (map (λ line. line.begun) lines) (at places p) false

abbrev pub world_in : Net → List ℕ → List Line → World
world_in net places lines = record {
  held = held_in net places lines;
  used = used_in net places lines;
  given = given_in net places lines;
  begun = begun_in places lines;
}
