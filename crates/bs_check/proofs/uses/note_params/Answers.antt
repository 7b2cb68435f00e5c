use Rattle.std.proofs.Common.{refl}
use Rattle.bs_tree.specs.Reads.{is_same}
use Rattle.bs_check.proofs.Rows.{left_write, left_write_end}
use Rattle.bs_check.proofs.uses.note_params.Goals as goal

pub loop-param-preserved : goal.loop-param-preserved
loop-param-preserved c = left_write (λ n x. is_same x n) _ _ _ c.as_slice-param-items.result.now c.loop-param.param-index _ _ _ _ c.loop-param-test.true refl c.loop-param.invariant c.write.ensures

pub returns : goal.returns
returns c =
    left_write_end (λ n x. is_same x n) _ _ c.as_slice-param-items.result.now c.loop-param.param-index _ _ c.loop-param-test.false c.loop-param.invariant
