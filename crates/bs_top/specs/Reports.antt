-- Reports: of the outcome that the serial machine model gives, and of a log at its one consistent table (docs/output.md).
use Rattle.std.specs.Prelude.{◌≡◌, ℕ, None, Ok, Err}
use Rattle.bs_log.specs.declared.log.Log.{Log}
use Rattle.bs_log.specs.declared.outcome.Outcome.{Outcome}
use Rattle.bs_machine.specs.Machine.{MachineOf, machine_view}
use Rattle.bs_machine.specs.declared.fitted.Fitted.{Fitted}
use Rattle.bs_report.specs.End.{end_of}
use Rattle.bs_report.specs.Report.{report_text}
use Rattle.bs_semantics.specs.Serial.{IsSerial, timed}
use Rattle.bs_times.specs.Machine.{machine_of}
use Rattle.bs_times.specs.Net.{Starts, net_of}
use Rattle.bs_times.specs.Outcomes.{outcome_of}
use Rattle.bs_times.specs.Times.{IsConsistent}
use Rattle.bs_tree.specs.declared.tree.Program.{Program}
use Rattle.bs_top.specs.Step.{Step, Said}
use Rattle.bs_top.specs.Targets.{output}
use Rattle.bs_top.specs.declared.reply.Ending.TheVariants.{Run}

-- the report of an outcome, and how its run ended
abbrev pub reported : Outcome → Said
reported outcome = record { ending = Run (end_of outcome); note = None; target = output; text = report_text outcome }

-- the report of an outcome that the serial machine model gives
pub record IsReport (p : Program) (m : MachineOf) (limit : ℕ) (said : Said) : Type 0 where
  pub fitted : Fitted
  pub outcome : Outcome
  pub is_machine : machine_view fitted.machine ≡ m
  pub is_fitted : fitted.chares ≡ p.chares
  pub is_outcome : IsSerial p limit (machine_of fitted) (timed outcome)
  pub is_said : said ≡ reported outcome

-- the outcome that the serial machine model gives
pub record IsOutcomeOn (p : Program) (m : MachineOf) (limit : ℕ) (outcome : Outcome) : Type 0 where
  pub fitted : Fitted
  pub is_machine : machine_view fitted.machine ≡ m
  pub is_fitted : fitted.chares ≡ p.chares
  pub is_outcome : IsSerial p limit (machine_of fitted) (timed outcome)

abbrev pub this_outcome : Outcome → Outcome
this_outcome outcome = outcome

abbrev pub outcome_on : Program → MachineOf → ℕ → Step Outcome
outcome_on p m limit (Ok outcome) = IsOutcomeOn p m limit outcome
outcome_on p m limit (Err stop) = ⊥

abbrev pub serial_run : Program → MachineOf → ℕ → Step Said
serial_run p m limit (Ok said) = IsReport p m limit said
serial_run p m limit (Err stop) = ⊥

-- the report of the outcome of a log on a machine at its one consistent table
pub record IsPrediction (kept : Log) (m : MachineOf) (said : Said) : Type 0 where
  pub fitted : Fitted
  pub starts : Starts
  pub is_machine : machine_view fitted.machine ≡ m
  pub is_fitted : fitted.chares ≡ kept.chares
  pub is_consistent : IsConsistent (net_of kept (machine_of fitted)) starts
  pub is_said : said ≡ reported (outcome_of kept (machine_of fitted) starts)

abbrev pub timed_on : Log → MachineOf → Step Said
timed_on kept m (Ok said) = IsPrediction kept m said
timed_on kept m (Err stop) = ⊥
