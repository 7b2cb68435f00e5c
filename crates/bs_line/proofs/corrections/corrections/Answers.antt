use Rattle.bs_line.proofs.Tables.{corrections_step}
use Rattle.bs_line.proofs.corrections.corrections.Goals as goal

pub loop-k-preserved : goal.loop-k-preserved
loop-k-preserved c = corrections_step c.args.outs.now c.args.given.now c.args.ticks.now c.loop-k.k _ _ _ c.loop-k.list _ _ c.loop-k-test.true c.requires.given c.requires.ticks c.loop-k.invariant c.in_ok-correct.ensures
