use Rattle.bs_tree.specs.Reads.{wait_reads, wait_writes}
use Rattle.bs_check.proofs.Rows.{left_item, left_end}
use Rattle.bs_check.proofs.uses.note_waits.Goals as goal

pub loop-wait-preserved : goal.loop-wait-preserved
loop-wait-preserved c = left_item wait_reads wait_writes _ _ _ c.as_slice-wait-items.result.now c.loop-wait.wait-index _ _ _ _ c.loop-wait-test.true c.wait-item.is c.loop-wait.invariant c.note_wait.ensures

pub returns : goal.returns
returns c =
    left_end wait_reads wait_writes _ _ c.as_slice-wait-items.result.now c.loop-wait.wait-index _ _ c.loop-wait-test.false c.loop-wait.invariant
