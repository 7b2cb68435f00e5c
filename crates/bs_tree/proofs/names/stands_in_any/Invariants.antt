use Rattle.std.proofs.Common.{◌≡◌, drop}
use Rattle.bs_tree.specs.Reads.{any_mentions}
use Rattle.bs_tree.proofs.names.stands_in_any.Given as goal

abbrev pub invariant-loop-expr : goal.invariant-loop-expr
invariant-loop-expr l = any_mentions l.name (drop l.expr-index l.expr-items) ≡ any_mentions l.name l.exprs
