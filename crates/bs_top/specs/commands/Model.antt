-- `model`: a program on the serial machine model.
use Rattle.std.specs.Prelude.{ℕ}
use Rattle.bs_machine.specs.Machine.{MachineOf}
use Rattle.bs_tree.specs.declared.tree.Program.{Program}
use Rattle.bs_top.specs.Inputs.{fits}
use Rattle.bs_top.specs.Reports.{serial_run}
use Rattle.bs_top.specs.Step.{Step, Said, ◌>>=◌}
use Rattle.bs_top.specs.Verdicts.{judged}

-- what comes of a program on a machine, at a limit of sizes
unfoldable pub simulated : Program → MachineOf → ℕ → Step Said
simulated program machine limit = do
  _ ← fits program.chares machine
  _ ← judged program limit
  serial_run program machine limit
