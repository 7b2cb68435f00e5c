-- What a refusal of a whole program says.
use Rattle.std.specs.Prelude.{List, Result, Ok, Err}
use Rattle.bs_tree.specs.Rule.{Terminal}
use Rattle.bs_tree.specs.Fault.{IsFirstFault}
use Rattle.bs_parse.specs.declared.whole.WholeFault.{WholeFault}
use Rattle.bs_parse.specs.declared.whole.WholeFault.TheVariants.{Memory, At}
use Rattle.bs_parse.specs.Seen.{reason_of}

abbrev pub Faults : {A : Type 0} → List Terminal → Result A WholeFault → Type 0
Faults ts (Ok a) = Unit {0}
Faults ts (Err Memory) = Unit {0}
Faults ts (Err (At place reason)) = IsFirstFault ts place (reason_of reason)
