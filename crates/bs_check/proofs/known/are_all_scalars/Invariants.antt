use Rattle.std.proofs.Common.{◌≡◌, drop}
use Rattle.bs_check.specs.Rules.{are_scalars}
use Rattle.bs_check.proofs.known.are_all_scalars.Given as goal

abbrev pub invariant-loop-param : goal.invariant-loop-param
invariant-loop-param l = are_scalars l.names.program (drop l.param-index l.param-items) ≡ are_scalars l.names.program l.params
