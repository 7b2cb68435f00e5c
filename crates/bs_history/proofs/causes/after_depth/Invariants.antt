use Rattle.std.proofs.Common.{◌≡◌, max, drop}
use Rattle.bs_semantics.specs.Run.{greatest}
use Rattle.bs_history.proofs.causes.after_depth.Given as goal

abbrev pub invariant-loop-cause : goal.invariant-loop-cause
invariant-loop-cause l = record {
  left : max l.depth (greatest (λ c. c.depth) (drop l.cause-index l.causes)) ≡ greatest (λ c. c.depth) l.causes;
}
