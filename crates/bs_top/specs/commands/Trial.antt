-- `trial`: a generated program on the flat machine of 64 processors with latency 10 (docs/output.md).
use Rattle.std.specs.Prelude.{◌≡◌, ℕ, None, Ok, Err}
use Rattle.bs_gen.specs.Programs.{workload_text}
use Rattle.bs_log.specs.declared.outcome.Outcome.{Outcome}
use Rattle.bs_machine.specs.Machine.{MachineOf, flat_in}
use Rattle.bs_report.specs.End.{end_of}
use Rattle.bs_report.specs.Trial.{trial_text}
use Rattle.bs_tree.specs.declared.tree.Program.{Program}
use Rattle.bs_words.specs.declared.generated.Generated.{Generated}
use Rattle.bs_top.specs.Inputs.{checked, or_bad_machine, program_in}
use Rattle.bs_top.specs.Reports.{outcome_on}
use Rattle.bs_top.specs.Step.{Step, Said, gives, ◌>>=◌}
use Rattle.bs_top.specs.Targets.{output}
use Rattle.bs_top.specs.commands.Run.{by_log}
use Rattle.bs_top.specs.declared.reply.Ending.TheVariants.{Run}

-- a trial's limit of sizes is the greatest
abbrev pub trial_limit : ℕ
trial_limit = 262144

-- the line of a trial, and how its run ended
abbrev pub tried_as : Generated → Outcome → Said
tried_as g outcome = record { ending = Run (end_of outcome); note = None; target = output; text = trial_text g.kind g.chares g.seed outcome }

-- what comes of the generated program, by way of its log: the line is that of the outcome that the serial machine model
-- gives
unfoldable pub tried : Generated → Step Said
tried g = do
  program ← program_in (workload_text g.kind g.chares g.seed)
  _ ← checked program
  machine ← gives (or_bad_machine (flat_in 64 10))
  outcome ← by_log None program machine trial_limit (outcome_on program machine trial_limit)
  gives (Ok (tried_as g outcome))
