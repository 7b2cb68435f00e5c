-- What a call for a history answers.
use Rattle.std.specs.Prelude.{◌≡◌, ◌≤◌, ◌<◌, ℕ, Result, Ok, Err}
use Rattle.bs_log.specs.declared.history.History.{History}
use Rattle.bs_log.specs.Size.{size}
use Rattle.bs_history.specs.declared.fault.HistoryFault.{HistoryFault}
use Rattle.bs_history.specs.declared.fault.HistoryFault.TheVariants.{Long, Memory}

-- the history, whose size is at most the limit, or `Long` where it is above. Where memory is wanting, nothing is said
abbrev pub IsHistory : ℕ → History → Result History HistoryFault → Type 0
IsHistory limit h (Ok given) = (given ≡ h) × (size h ≤ limit)
IsHistory limit h (Err Long) = limit < size h
IsHistory limit h (Err Memory) = Unit {0}
