use Rattle.std.proofs.Common.{◌≡◌, drop}
use Rattle.bs_check.specs.Known.{are_exprs_known}
use Rattle.bs_check.proofs.known.knows_exprs.Given as goal

abbrev pub invariant-loop-expr : goal.invariant-loop-expr
invariant-loop-expr l = are_exprs_known l.names.program (drop l.expr-index l.expr-items) ≡ are_exprs_known l.names.program l.exprs
