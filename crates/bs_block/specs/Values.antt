-- The values of a list of expressions, as a call hands them out.
use Rattle.std.specs.Prelude.{◌≡◌, ℤ, List, Result, Ok, Err}
use Rattle.bs_log.specs.declared.history.TrapKind.{TrapKind}
use Rattle.bs_block.specs.declared.done.BlockFault.{BlockFault}
use Rattle.bs_block.specs.declared.done.BlockFault.TheVariants.{Trap, Memory}

-- the values, or the first trap. Where memory is wanting, nothing is said
abbrev pub AreValues : Result (List ℤ) TrapKind → Result (List ℤ) BlockFault → Type 0
AreValues values (Ok list) = values ≡ Ok list
AreValues values (Err (Trap kind)) = values ≡ Err kind
AreValues values (Err Memory) = Unit {0}
