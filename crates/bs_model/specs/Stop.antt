-- What it means that the model goes no further.
use Rattle.std.specs.Prelude.{ℕ}
use Rattle.bs_tree.specs.declared.tree.Program.{Program}
use Rattle.bs_semantics.specs.Rounds.{CleanAt}
use Rattle.bs_model.specs.declared.stop.Stop.{Stop}
use Rattle.bs_model.specs.declared.stop.Stop.TheVariants.{Unclean, Memory}

-- this isn't so. Where memory is wanting, nothing is said
abbrev pub Denies : Type 0 → Stop → Type 0
Denies P Unclean = P → ⊥
Denies P Memory = Unit {0}

-- the verdict is Clean
abbrev pub HasCleanRound : Program → ℕ → Type 0
HasCleanRound p limit = (n : ℕ) × CleanAt p limit n
