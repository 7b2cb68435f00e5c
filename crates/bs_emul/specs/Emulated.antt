-- What an emulation is told to give.
use Rattle.std.specs.Prelude.{◌≡◌, ◌≤◌, ◌<◌, ℕ, List, length}
use Rattle.bs_tree.specs.declared.tree.Program.{Program}
use Rattle.bs_log.specs.declared.history.History.{History}
use Rattle.bs_log.specs.declared.log.Log.{Log}
use Rattle.bs_log.specs.Collected.{log_of}
use Rattle.bs_log.specs.Size.{size_all}
use Rattle.bs_semantics.specs.Verdict.{IsVerdict, clean}
use Rattle.bs_emul.specs.declared.emulated.Emulated.{Emulated}
use Rattle.bs_emul.specs.declared.emulated.Emulated.TheVariants.{Logged, Unclean}
use Rattle.bs_emul.specs.declared.stop.Stop.{Stop}
use Rattle.bs_emul.specs.declared.stop.Stop.TheVariants as stop

-- the verdict is Clean, and this is the log of its round
abbrev pub IsCleanLog : Program → ℕ → Log → Type 0
IsCleanLog p limit log = (hs : List History) × IsVerdict p limit (clean hs) × (log ≡ log_of hs (length p.entries))

-- the log of the Clean round, or that the verdict isn't Clean
abbrev pub IsEmulated : Program → ℕ → Emulated → Type 0
IsEmulated p limit (Logged log) = IsCleanLog p limit log
IsEmulated p limit Unclean = (hs : List History) → IsVerdict p limit (clean hs) → ⊥

-- the histories, whose size together is at most the limit
abbrev pub AreTold : ℕ → List History → List History → Type 0
AreTold limit hs told = (told ≡ hs) × (size_all hs ≤ limit)

-- their size is above the limit. Where memory is wanting, nothing is said
abbrev pub AreTooLong : ℕ → List History → Stop → Type 0
AreTooLong limit hs stop.Unclean = limit < size_all hs
AreTooLong limit hs stop.Memory = Unit {0}
