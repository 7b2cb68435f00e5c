use Rattle.std.proofs.Common.{◌≡◌, drop}
use Rattle.bs_check.specs.Declarations.{are_lengths}
use Rattle.bs_check.proofs.declarations.has_lengths.Given as goal

abbrev pub invariant-loop-var : goal.invariant-loop-var
invariant-loop-var l = are_lengths (drop l.var-index l.vars) ≡ are_lengths l.vars
