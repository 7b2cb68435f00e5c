-- `predict`: a log on a machine, with a journal of its waves where there is a name for its file.
use Rattle.std.specs.Prelude.{ℕ, List, Option, Some, None}
use Rattle.bs_log.specs.declared.log.Log.{Log}
use Rattle.bs_machine.specs.Machine.{MachineOf}
use Rattle.bs_top.specs.Inputs.{fits}
use Rattle.bs_top.specs.Reports.{timed_on}
use Rattle.bs_top.specs.Step.{Step, Said, ◌>>=◌}
use Rattle.bs_top.specs.Waves.{within}
use Rattle.bs_top.specs.commands.Journal.{journaled}

-- what comes of a log on a machine, within so many waves
unfoldable pub predicted : Option ℕ → Log → MachineOf → Step Said
predicted waves kept machine = do
  _ ← fits kept.chares machine
  _ ← within waves kept machine
  timed_on kept machine

-- the same, with a journal where there is a name for its file
abbrev pub predicted_with : Option ℕ → Option (List ℕ) → Log → MachineOf → Step Said
predicted_with waves None = predicted waves
predicted_with waves (Some into) = journaled waves into
