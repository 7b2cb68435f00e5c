use Rattle.bs_line.proofs.Parts.{zeros_more}
use Rattle.bs_line.proofs.making.homes.Goals as goal

pub loop-row-preserved : goal.loop-row-preserved
loop-row-preserved c = zeros_more c.args.rows.now c.loop-row.homes _ _ c.loop-row._row-index c.loop-row-test.true c.loop-row.invariant (c.in_ok-push-2.ensures.ok)
