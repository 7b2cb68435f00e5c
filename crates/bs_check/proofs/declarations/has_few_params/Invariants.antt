use Rattle.std.proofs.Common.{◌≡◌, drop}
use Rattle.bs_check.specs.Declarations.{are_few_params}
use Rattle.bs_check.proofs.declarations.has_few_params.Given as goal

abbrev pub invariant-loop-entry : goal.invariant-loop-entry
invariant-loop-entry l = are_few_params (drop l.entry-index l.entries) ≡ are_few_params l.entries
