use Rattle.bs_tree.specs.Reads.{mentions}
use Rattle.bs_check.proofs.Rows.{left_read, left_read_end}
use Rattle.bs_check.proofs.uses.note_exprs.Goals as goal

pub loop-expr-preserved : goal.loop-expr-preserved
loop-expr-preserved c = left_read mentions _ _ _ c.as_slice-expr-items.result.now c.loop-expr.expr-index _ _ _ _ c.loop-expr-test.true c.expr-item.is c.loop-expr.invariant c.note_expr.ensures

pub returns : goal.returns
returns c =
    left_read_end mentions _ _ c.as_slice-expr-items.result.now c.loop-expr.expr-index _ _ c.loop-expr-test.false c.loop-expr.invariant
