-- What the serial machine model is told to give.
use Rattle.std.specs.Prelude.{ℕ}
use Rattle.bs_tree.specs.declared.tree.Program.{Program}
use Rattle.bs_log.specs.Reportable.{IsReportable}
use Rattle.bs_semantics.specs.Rounds.{CleanAt}
use Rattle.bs_semantics.specs.Serial as plain
use Rattle.bs_model.specs.declared.simulated.Simulated.{Simulated}
use Rattle.bs_model.specs.declared.simulated.Simulated.TheVariants.{Timed, Unclean}

-- an outcome that can be reported, or that some state isn't clean
abbrev pub IsSimulated : Program → ℕ → plain.Machine → Simulated → Type 0
IsSimulated p limit m (Timed o) = plain.IsSerial p limit m (plain.timed o) × IsReportable o
IsSimulated p limit m Unclean = plain.IsSerial p limit m plain.unclean

-- `Unclean` comes exactly where the verdict isn't Clean
abbrev pub IsDecided : Program → ℕ → Simulated → Type 0
IsDecided p limit (Timed o) = (n : ℕ) × CleanAt p limit n
IsDecided p limit Unclean = (n : ℕ) → CleanAt p limit n → ⊥
