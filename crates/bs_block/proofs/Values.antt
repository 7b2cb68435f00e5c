-- The values of a list of expressions, one after the other.
use Rattle.std.proofs.Common.{List, ◌++◌, Result, Ok, Err}
use Rattle.std.specs.Prelude.{ℤ}
use Rattle.bs_log.specs.declared.history.TrapKind.{TrapKind}

-- the values that are known, in front of those that are left
abbrev pub after_values : List ℤ → Result (List ℤ) TrapKind → Result (List ℤ) TrapKind
after_values vs (Ok ws) = Ok (vs ++ ws)
after_values vs (Err kind) = Err kind
