use Rattle.std.proofs.Common.{ap, ◌∙◌, max, drop, ◌+◌}
use Rattle.bs_semantics.specs.Run.{greatest}
use Rattle.bs_history.proofs.Paths.{greatest_step, greatest_done}
use Rattle.bs_history.proofs.causes.after_depth.Goals as goal

pub loop-cause-preserved : goal.loop-cause-preserved
loop-cause-preserved c = record { left = ap (λ n. max n (greatest (λ c. c.depth) (drop (c.loop-cause.cause-index + 1) c.args.causes.now))) c.max-depth.ensures ∙ (greatest_step (λ c. c.depth) c.args.causes.now c.loop-cause.cause-index c.cause-item.result c.loop-cause-test.true c.cause-item.is c.loop-cause.depth ∙ c.loop-cause.invariant.left) }

pub returns : goal.returns
returns c = greatest_done (λ c. c.depth) c.args.causes.now c.loop-cause.cause-index c.loop-cause-test.false c.loop-cause.depth ∙ c.loop-cause.invariant.left
