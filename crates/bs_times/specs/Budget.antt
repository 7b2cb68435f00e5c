-- How many waves are always enough for a log (docs/model.md).
use Rattle.std.specs.Prelude.{◌+◌, ◌*◌, ℕ, length}
use Rattle.bs_log.specs.declared.log.Log.{Log}
use Rattle.bs_times.specs.Net.{row_of}
use Rattle.bs_times.specs.Times.{greatest_to}

-- so many waves are enough for a log on every machine: the number of rows times (the greatest depth + 1), and 2
abbrev pub budget_of : Log → ℕ
budget_of log = length log.rows * (greatest_to (λ i. (row_of log i).depth) (length log.rows) + 1) + 2
