use Rattle.std.proofs.Common.{ap, ◌∙◌, max, drop, ◌+◌}
use Rattle.bs_semantics.specs.Run.{greatest}
use Rattle.bs_history.proofs.Paths.{greatest_step, greatest_done}
use Rattle.bs_history.proofs.causes.mail_depth.Goals as goal

pub loop-origin-preserved : goal.loop-origin-preserved
loop-origin-preserved c = record { left = ap (λ n. max n (greatest (λ c. c.depth) (drop (c.loop-origin.origin-index + 1) c.args.origins.now))) c.max-depth.ensures ∙ (greatest_step (λ c. c.depth) c.args.origins.now c.loop-origin.origin-index c.origin-item.result c.loop-origin-test.true c.origin-item.is c.loop-origin.depth ∙ c.loop-origin.invariant.left) }

pub returns : goal.returns
returns c = greatest_done (λ c. c.depth) c.args.origins.now c.loop-origin.origin-index c.loop-origin-test.false c.loop-origin.depth ∙ c.loop-origin.invariant.left
