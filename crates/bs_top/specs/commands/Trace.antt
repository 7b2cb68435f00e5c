-- `trace`: what each processor ran, and when each message came (docs/output.md).
use Rattle.std.specs.Prelude.{◌≡◌, None, Ok, Err}
use Rattle.bs_log.specs.End as log
use Rattle.bs_log.specs.declared.log.Log.{Log}
use Rattle.bs_machine.specs.Machine.{MachineOf, machine_view}
use Rattle.bs_machine.specs.declared.fitted.Fitted.{Fitted}
use Rattle.bs_report.specs.End.{end_of}
use Rattle.bs_report.specs.Trace.{trace_text}
use Rattle.bs_settle.specs.Timed.{starts_from}
use Rattle.bs_times.specs.Machine.{machine_of}
use Rattle.bs_times.specs.Net.{Starts, net_of}
use Rattle.bs_times.specs.Times.{IsConsistent}
use Rattle.bs_top.specs.Inputs.{fits}
use Rattle.bs_top.specs.Step.{Step, Said, ◌>>=◌}
use Rattle.bs_top.specs.Targets.{output}
use Rattle.bs_top.specs.declared.reply.Ending.TheVariants.{Run}

-- the trace of a log on a machine at its one consistent table
pub record IsTracing (kept : Log) (m : MachineOf) (said : Said) : Type 0 where
  pub fitted : Fitted
  pub starts : Starts
  pub is_machine : machine_view fitted.machine ≡ m
  pub is_fitted : fitted.chares ≡ kept.chares
  pub is_consistent : IsConsistent (net_of kept (machine_of fitted)) starts
  pub is_said : said ≡ record { ending = Run (log.end_of kept); note = None; target = output; text = trace_text kept (machine_of fitted) (starts_from starts 1 kept.rows) }

abbrev pub trace_on : Log → MachineOf → Step Said
trace_on kept m (Ok said) = IsTracing kept m said
trace_on kept m (Err stop) = ⊥

unfoldable pub traced : Log → MachineOf → Step Said
traced kept machine = do
  _ ← fits kept.chares machine
  trace_on kept machine
