-- What it means that an emulation goes no further.
use Rattle.std.specs.Prelude.{ℕ}
use Rattle.bs_tree.specs.declared.tree.Program.{Program}
use Rattle.bs_chare.specs.declared.fault.ChareFault.{ChareFault}
use Rattle.bs_chare.specs.declared.fault.ChareFault.TheVariants.{TwoSent, TwoAsked, Long, Memory}
use Rattle.bs_emul.specs.declared.stop.Stop.{Stop}
use Rattle.bs_emul.specs.declared.stop.Stop.TheVariants as stop
use Rattle.bs_emul.specs.Reached.{NeverClean}

-- what a chare's refusal comes to
abbrev pub stop_of : ChareFault → Stop
stop_of (TwoSent m) = stop.Unclean
stop_of (TwoAsked k p q) = stop.Unclean
stop_of Long = stop.Unclean
stop_of Memory = stop.Memory

-- no round is Clean. Where memory is wanting, nothing is said
abbrev pub IsStopped : Program → ℕ → Stop → Type 0
IsStopped p limit stop.Unclean = NeverClean p limit
IsStopped p limit stop.Memory = Unit {0}
