-- How control goes on.
use Rattle.std.specs.Prelude.{ℤ, ℕ, Bool, true, not, List, Option, Some, None}
use Rattle.bs_tree.specs.declared.tree.Program.{Program}
use Rattle.bs_check.specs.Fits.{is_set_fit}
use Rattle.bs_semantics.specs.Layout.{place_of}
use Rattle.bs_semantics.specs.Value.{is_zero, value_of}
use Rattle.bs_semantics.specs.Run.{Run, State as PlainState, assign, no_step}
use Rattle.bs_history.specs.declared.control.Step.{Step}
use Rattle.bs_history.specs.declared.ground.Ground.{Ground}
use Rattle.bs_history.specs.Ground.{program_of}

-- a test is true where it isn't 0
abbrev pub is_true : ℤ → Bool
is_true v = not (is_zero v)

-- what is done after each turn of a loop
abbrev pub step_in : Program → ℕ → Option Step → ℕ → List ℕ → (PlainState → Run) → PlainState → Run
step_in p this None = no_step
step_in p this (Some step) = assign (λ s. value_of p this step.value.now s.cells) (place_of p step.name).from

abbrev pub step_of : Ground → Option Step → ℕ → List ℕ → (PlainState → Run) → PlainState → Run
step_of g = step_in (program_of g) g.this

abbrev pub is_step_fit : Program → Option Step → Bool
is_step_fit p None = true
is_step_fit p (Some step) = is_set_fit p step.name step.value.now
