-- The times of a log on a machine (docs/model.md).
use Rattle.std.specs.Prelude.{◌≡◌, ◌≤◌, ◌<◌, ◌+◌, ◌^◌, ℕ, List, [], ◌∷◌}
use Rattle.bs_log.specs.declared.log.Row.{Row}
use Rattle.bs_log.specs.declared.log.Log.{Log}
use Rattle.bs_semantics.specs.Serial.{Machine}
use Rattle.bs_times.specs.Net.{Starts, HasRow, net_of}
use Rattle.bs_times.specs.Times.{IsConsistent, end_of}
pub use Rattle.bs_line.specs.Making.{numbers}
use Rattle.bs_settle.specs.declared.times.Times.{Times}

-- the starts of rows that are numbered from k on
abbrev pub starts_from : Starts → ℕ → List Row → List ℕ
starts_from s k [] = []
starts_from s k (r ∷ rs) = s k ∷ starts_from s (k + 1) rs

-- their ends: each start and the duration of the row's cost
abbrev pub ends_from : Machine → Starts → ℕ → List Row → List ℕ
ends_from m s k [] = []
ends_from m s k (r ∷ rs) = (s k + m.duration r.cost) ∷ ends_from m s (k + 1) rs

-- where a row's start and end lie: it takes at least one tick and at most 2^48, and ends before tick 2^110
pub record AreInRange (start end : ℕ) : Type 0 where
  pub starts_early : start < 2 ^ 109
  pub takes_time : start < end
  pub is_short : end ≤ start + 2 ^ 48
  pub ends_early : end < 2 ^ 110

-- the starts of all rows in their order, by the consistent table, and their ends
pub record AreTimes (log : Log) (m : Machine) (times : Times) : Type 0 where
  pub table : Starts
  pub is_consistent : IsConsistent (net_of log m) table
  pub starts : numbers times.starts ≡ starts_from table 1 log.rows
  pub ends : numbers times.ends ≡ ends_from m table 1 log.rows
  pub in_range : (i : ℕ) → HasRow (net_of log m) i → AreInRange (table i) (end_of (net_of log m) table i)
