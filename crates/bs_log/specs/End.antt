-- How the run of a log ends, by its traps and waits.
use Rattle.std.specs.Prelude.{List, [], ◌∷◌}
use Rattle.bs_log.specs.declared.log.TrapRow.{TrapRow}
use Rattle.bs_log.specs.declared.log.WaitRow.{WaitRow}
use Rattle.bs_log.specs.declared.log.Log.{Log}
use Rattle.bs_log.specs.declared.outcome.End.{End}
use Rattle.bs_log.specs.declared.outcome.End.TheVariants.{Settled, Deadlock, Trapped}

-- trapped where there is a trap, otherwise deadlocked where there is a wait, otherwise settled
abbrev pub end_by : List TrapRow → List WaitRow → End
end_by (trap ∷ traps) waits = Trapped
end_by [] (wait ∷ waits) = Deadlock
end_by [] [] = Settled

abbrev pub end_of : Log → End
end_of log = end_by log.traps log.waits
