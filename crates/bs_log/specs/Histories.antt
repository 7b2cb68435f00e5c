-- The history of a chare among those of all.
use Rattle.std.specs.Prelude.{ℕ, false, List, [], get_or}
use Rattle.bs_log.specs.declared.history.History.{History}

-- a chare that has done nothing
abbrev pub no_history : History
no_history = record { blocks = []; asked = []; waits = []; traps = []; ended = false }

-- the history of a chare
abbrev pub history_at : List History → ℕ → History
history_at hs c = get_or hs c no_history
