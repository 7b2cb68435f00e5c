-- `run`: a program on a machine, by way of its log.
use Rattle.std.specs.Prelude.{ℕ, Option}
use Rattle.bs_machine.specs.Machine.{MachineOf}
use Rattle.bs_tree.specs.declared.tree.Program.{Program}
use Rattle.bs_top.specs.Inputs.{fits}
use Rattle.bs_top.specs.Reports.{serial_run}
use Rattle.bs_top.specs.Step.{Step, Said, ◌>>=◌}
use Rattle.bs_top.specs.Verdicts.{logged}
use Rattle.bs_top.specs.Waves.{within}

-- the machine fits, there is a log, and so many waves are enough; and then what comes of it
unfoldable pub by_log : {A : Type 0} → Option ℕ → Program → MachineOf → ℕ → Step A → Step A
by_log waves program machine limit last = do
  _ ← fits program.chares machine
  kept ← logged program limit
  _ ← within waves kept machine
  last

-- what comes of a program by its log on a machine, within so many waves: the report is that of the serial machine model
unfoldable pub ran : Option ℕ → Program → MachineOf → ℕ → Step Said
ran waves program machine limit = do
  _ ← fits program.chares machine
  kept ← logged program limit
  _ ← within waves kept machine
  serial_run program machine limit
