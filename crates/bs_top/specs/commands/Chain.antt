-- `chain`: the rows that the span of a log on a machine waits for (docs/chain.md).
use Rattle.std.specs.Prelude.{◌≡◌, None, Ok, Err}
use Rattle.bs_log.specs.End as log
use Rattle.bs_log.specs.declared.log.Log.{Log}
use Rattle.bs_machine.specs.Machine.{MachineOf, machine_view}
use Rattle.bs_machine.specs.declared.fitted.Fitted.{Fitted}
use Rattle.bs_path.specs.Chain.{IsCritical}
use Rattle.bs_path.specs.Text.{chain_of}
use Rattle.bs_path.specs.declared.links.Chain.{Chain}
use Rattle.bs_times.specs.Machine.{machine_of}
use Rattle.bs_times.specs.Net.{Starts, net_of}
use Rattle.bs_times.specs.Times.{IsConsistent}
use Rattle.bs_top.specs.Inputs.{fits}
use Rattle.bs_top.specs.Step.{Step, Said, ◌>>=◌}
use Rattle.bs_top.specs.Targets.{output}
use Rattle.bs_top.specs.declared.reply.Ending.TheVariants.{Run}

-- the text of a chain, and how the run of its log ends
abbrev pub chain_said : Log → Chain → Said
chain_said kept chain = record { ending = Run (log.end_of kept); note = None; target = output; text = chain_of kept chain }

-- the critical chain of a log on a machine at its one consistent table
pub record IsChaining (kept : Log) (m : MachineOf) (said : Said) : Type 0 where
  pub fitted : Fitted
  pub starts : Starts
  pub chain : Chain
  pub is_machine : machine_view fitted.machine ≡ m
  pub is_fitted : fitted.chares ≡ kept.chares
  pub is_consistent : IsConsistent (net_of kept (machine_of fitted)) starts
  pub is_critical : IsCritical (net_of kept (machine_of fitted)) starts chain
  pub is_said : said ≡ chain_said kept chain

abbrev pub chain_on : Log → MachineOf → Step Said
chain_on kept m (Ok said) = IsChaining kept m said
chain_on kept m (Err stop) = ⊥

unfoldable pub chained : Log → MachineOf → Step Said
chained kept machine = do
  _ ← fits kept.chares machine
  chain_on kept machine
