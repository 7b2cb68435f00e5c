use Rattle.std.proofs.Common.{false, drop}
use Rattle.bs_tree.specs.Reads.{any_mentions}
use Rattle.bs_check.proofs.Rows.{Left}
use Rattle.bs_check.proofs.uses.note_exprs.Given as goal

abbrev pub invariant-loop-expr : goal.invariant-loop-expr
invariant-loop-expr l = Left l.fn.touches l.touches (λ n. any_mentions n (drop l.expr-index l.expr-items)) (λ n. false) (λ n. any_mentions n l.exprs) (λ n. false)
