use Rattle.std.proofs.Common.{◌<◌, All, take}
use Rattle.bs_check.proofs.tests.names_vars.Given as goal

abbrev pub invariant-loop-var : goal.invariant-loop-var
invariant-loop-var l = All (λ x. x.name.0 < l.count) (take l.var-index l.vars)
