-- What times of a log are taken for its outcome (docs/model.md).
use Rattle.std.specs.Prelude.{◌≡◌, ℕ, List, [], ◌∷◌}
use Rattle.bs_log.specs.declared.log.Row.{Row}
use Rattle.bs_log.specs.declared.log.Log.{Log}
use Rattle.bs_log.specs.declared.outcome.OutRow.{OutRow}
use Rattle.bs_semantics.specs.Serial.{Machine}
use Rattle.bs_settle.specs.declared.times.Times.{Times}
use Rattle.bs_settle.specs.Timed.{AreInRange, numbers, starts_from, ends_from}
use Rattle.bs_times.specs.Net.{Starts, HasRow, net_of}
use Rattle.bs_times.specs.Times.{end_of}

-- These are the starts of a table and their ends, all in range. The table need not be the consistent one.
pub record AreEnds (log : Log) (m : Machine) (times : Times) : Type 0 where
  pub table : Starts
  pub starts : numbers times.starts ≡ starts_from table 1 log.rows
  pub ends : numbers times.ends ≡ ends_from m table 1 log.rows
  pub in_range : (i : ℕ) → HasRow (net_of log m) i → AreInRange (table i) (end_of (net_of log m) table i)

-- a row with its processor, that starts and ends at these ticks
abbrev pub timed_row : Machine → Row → ℕ → ℕ → OutRow
timed_row m r start end = record { chare = r.chare; stmt = r.stmt; processor = m.home r.chare; start = start; end = end; values = r.emits }

-- rows side by side with their starts and ends
abbrev pub timed_rows : Machine → List Row → List ℕ → List ℕ → List OutRow
timed_rows m [] ss es = []
timed_rows m (r ∷ rs) [] es = []
timed_rows m (r ∷ rs) (s ∷ ss) [] = []
timed_rows m (r ∷ rs) (s ∷ ss) (e ∷ es) = timed_row m r s e ∷ timed_rows m rs ss es
