-- What a command answers, by the contents of the files (docs/output.md).
use Rattle.std.specs.Prelude.{◌≡◌, ℕ, List, [], length, Option, Some, None, Result, Ok, Err}
use Rattle.bs_desk.specs.Outside.{Files}
use Rattle.bs_log.specs.declared.outcome.End.{End}
use Rattle.bs_log.specs.declared.outcome.End.TheVariants as end
use Rattle.bs_report.specs.Fault.{fault_text}
use Rattle.bs_report.specs.declared.faults.Fault.{Fault}
use Rattle.bs_report.specs.declared.faults.Fault.TheVariants as fault
use Rattle.bs_settle.specs.declared.settling.BudgetSpent.{BudgetSpent}
use Rattle.bs_top.specs.Inputs.{machine_named, machines_behind, accepted, log_named}
use Rattle.bs_top.specs.Step.{Step, Said, gives, ◌>>=◌}
use Rattle.bs_top.specs.Targets.{Note, TargetOf, errors}
use Rattle.bs_top.specs.Verdicts.{logged}
use Rattle.bs_top.specs.Words.{Asked, check, model, emulate, run, predict, trace, chain, sweep, tune, gen, trial}
use Rattle.bs_top.specs.commands.Chain.{chained}
use Rattle.bs_top.specs.commands.Check.{printed}
use Rattle.bs_top.specs.commands.Emulate.{kept_in}
use Rattle.bs_top.specs.commands.Gen.{generated}
use Rattle.bs_top.specs.commands.Model.{simulated}
use Rattle.bs_top.specs.commands.Predict.{predicted_with}
use Rattle.bs_top.specs.commands.Run.{ran}
use Rattle.bs_top.specs.commands.Sweep.{sweep_on}
use Rattle.bs_top.specs.commands.Trace.{traced}
use Rattle.bs_top.specs.commands.Trial.{tried}
use Rattle.bs_top.specs.commands.Tune.{tuned}
use Rattle.bs_top.specs.declared.reply.Ending.{Ending}
use Rattle.bs_top.specs.declared.reply.Ending.TheVariants.{Run, Spent}
use Rattle.bs_top.specs.declared.status.Status.{Status}
use Rattle.bs_top.specs.declared.status.Status.TheVariants as status
use Rattle.bs_top.specs.declared.stopped.Stopped.{Stopped}
use Rattle.bs_top.specs.declared.stopped.Stopped.TheVariants.{Refused, NoFile, ReadFault, Memory}

-- what comes of a command; so it is that words which are none come to a refusal
unfoldable pub reply_to : Files → Option Asked → Step Said
reply_to files None = gives (Err (Refused fault.BadWords))
reply_to files (Some (check name)) = do
  program ← accepted files name
  gives (Ok (printed program))
reply_to files (Some (model name word limit)) = do
  program ← accepted files name
  machine ← machine_named files word
  simulated program machine limit
reply_to files (Some (emulate name into limit)) = do
  program ← accepted files name
  kept ← logged program limit
  gives (Ok (kept_in into kept))
reply_to files (Some (run name word limit waves)) = do
  program ← accepted files name
  machine ← machine_named files word
  ran waves program machine limit
reply_to files (Some (predict name word waves journal)) = do
  kept ← log_named files name
  machine ← machine_named files word
  predicted_with waves journal kept machine
reply_to files (Some (trace name word)) = do
  kept ← log_named files name
  machine ← machine_named files word
  traced kept machine
reply_to files (Some (chain name word)) = do
  kept ← log_named files name
  machine ← machine_named files word
  chained kept machine
reply_to files (Some (sweep name words spans)) = do
  kept ← log_named files name
  machines ← machines_behind [] files kept.chares words
  sweep_on spans kept machines
reply_to files (Some (tune name word tuning spans)) = do
  kept ← log_named files name
  machine ← machine_named files word
  tuned tuning spans kept machine
reply_to files (Some (gen program)) = gives (Ok (generated program))
reply_to files (Some (trial program)) = tried program

abbrev pub status_at : End → Status
status_at end.Settled = status.Settled
status_at end.Deadlock = status.Deadlock
status_at end.Trapped = status.Trapped

abbrev pub status_of : Ending → Status
status_of (Run end) = status_at end
status_of Spent = status.BudgetSpent

-- the status of a refusal
abbrev pub refused_by : Fault → Status
refused_by fault.BadWords = status.BadWords
refused_by (fault.BadProgram why) = status.BadProgram
refused_by (fault.CheckFailed why) = status.CheckFailed
refused_by (fault.BadMachine why) = status.BadMachine
refused_by (fault.BadPlace length) = status.BadMachine
refused_by (fault.BadLog why) = status.BadLog
refused_by (fault.Ambiguous twice) = status.AmbiguousMatch
refused_by (fault.TooLong limit) = status.TooLong
refused_by (fault.BudgetSpent spent) = status.BudgetSpent
refused_by (fault.TooBig limit) = status.TooBig

-- a status, a text that is written to its place, and maybe a note that is written before it
pub record Answer : Type 0 where
  pub status : Status
  pub note : Option Note
  pub target : TargetOf
  pub text : List ℕ

abbrev pub refused : Fault → Answer
refused why = record { status = refused_by why; note = None; target = errors; text = fault_text why }

abbrev pub silent : Status → Answer
silent s = record { status = s; note = None; target = errors; text = [] }

-- the text of a reply goes to its place, and the line of a refusal to standard error
abbrev pub answer_of : Result Said Stopped → Answer
answer_of (Ok said) = record { status = status_of said.ending; note = said.note; target = said.target; text = said.text }
answer_of (Err (Refused why)) = refused why
answer_of (Err NoFile) = silent status.NoFile
answer_of (Err ReadFault) = silent status.ReadFault
answer_of (Err Memory) = silent status.Memory

-- what is answered to a command, or to words that are none, where the files hold these contents
pub record IsAnswer (files : Files) (asked : Option Asked) (answer : Answer) : Type 0 where
  pub reply : Result Said Stopped
  pub is_reply : reply_to files asked reply
  pub is_answer : answer ≡ answer_of reply
