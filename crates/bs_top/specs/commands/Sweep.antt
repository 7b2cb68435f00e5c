-- `sweep`: a log on one machine after the other (docs/output.md).
use Rattle.std.specs.Prelude.{◌≡◌, ℕ, Bool, List, map, Ok, Err}
use Rattle.bs_log.specs.declared.log.Log.{Log}
use Rattle.bs_machine.specs.Machine.{MachineOf, machine_view}
use Rattle.bs_machine.specs.declared.fitted.Fitted.{Fitted}
use Rattle.bs_whatif.specs.Figures.{AreFitted, swept}
use Rattle.bs_top.specs.Step.{Step, Said}
use Rattle.bs_top.specs.commands.Points.{IsTextOf, points_said}

-- what is seen of machines
abbrev pub views : List Fitted → List MachineOf
views fitted = map (λ f. machine_view f.machine) fitted

-- the points of a log on machines, one for each, in their order
pub record IsSweep (spans : Bool) (kept : Log) (machines : List MachineOf) (said : Said) : Type 0 where
  pub fitted : List Fitted
  pub text : List ℕ
  pub are_machines : views fitted ≡ machines
  pub are_fitted : AreFitted kept fitted
  pub is_text : IsTextOf spans (swept kept fitted) text
  pub is_said : said ≡ points_said kept text

abbrev pub sweep_on : Bool → Log → List MachineOf → Step Said
sweep_on spans kept machines (Ok said) = IsSweep spans kept machines said
sweep_on spans kept machines (Err stop) = ⊥
