-- The outcome of a log on a machine, where its rows start at given ticks (docs/model.md).
use Rattle.std.specs.Prelude.{ℕ, ◌+◌, List, [], ◌∷◌}
use Rattle.bs_log.specs.declared.log.Row.{Row}
use Rattle.bs_log.specs.declared.log.Log.{Log}
use Rattle.bs_log.specs.declared.outcome.OutRow.{OutRow}
use Rattle.bs_log.specs.declared.outcome.Outcome.{Outcome}
use Rattle.bs_semantics.specs.Serial.{Machine}
use Rattle.bs_times.specs.Net.{Starts}

-- the row of number k: it runs on its chare's processor from its start on, as long as its cost says
abbrev pub out_row : Machine → Starts → ℕ → Row → OutRow
out_row m s k r = record { chare = r.chare; stmt = r.stmt; processor = m.home r.chare; start = s k; end = s k + m.duration r.cost; values = r.emits }

-- rows numbered from k on, in their order
abbrev pub out_rows : Machine → Starts → ℕ → List Row → List OutRow
out_rows m s k [] = []
out_rows m s k (r ∷ rs) = out_row m s k r ∷ out_rows m s (k + 1) rs

-- the traps and the waits are the log's
abbrev pub outcome_of : Log → Machine → Starts → Outcome
outcome_of log m s = record { rows = out_rows m s 1 log.rows; traps = log.traps; waits = log.waits }
