-- `tune`: a log on a machine, before and after one statement costs a fraction (docs/output.md).
use Rattle.std.specs.Prelude.{◌≡◌, ℕ, Bool, List, Ok, Err}
use Rattle.bs_log.specs.declared.log.Log.{Log}
use Rattle.bs_machine.specs.Machine.{MachineOf, machine_view}
use Rattle.bs_machine.specs.declared.fitted.Fitted.{Fitted}
use Rattle.bs_whatif.specs.Figures as points
use Rattle.bs_whatif.specs.Rescaled.{IsFraction}
use Rattle.bs_words.specs.declared.tuning.Tuning.{Tuning}
use Rattle.bs_top.specs.Inputs.{fits}
use Rattle.bs_top.specs.Step.{Step, Said, ◌>>=◌}
use Rattle.bs_top.specs.commands.Points.{IsTextOf, points_said}

-- the two points of a log on a machine
pub record IsTune (tuning : Tuning) (spans : Bool) (kept : Log) (m : MachineOf) (said : Said) : Type 0 where
  pub fitted : Fitted
  pub text : List ℕ
  pub is_machine : machine_view fitted.machine ≡ m
  pub is_fitted : fitted.chares ≡ kept.chares
  pub is_fraction : IsFraction tuning.num tuning.den
  pub is_text : IsTextOf spans (points.tuned kept fitted tuning.stmt tuning.num tuning.den) text
  pub is_said : said ≡ points_said kept text

abbrev pub tune_on : Tuning → Bool → Log → MachineOf → Step Said
tune_on tuning spans kept m (Ok said) = IsTune tuning spans kept m said
tune_on tuning spans kept m (Err stop) = ⊥

unfoldable pub tuned : Tuning → Bool → Log → MachineOf → Step Said
tuned tuning spans kept machine = do
  _ ← fits kept.chares machine
  tune_on tuning spans kept machine
