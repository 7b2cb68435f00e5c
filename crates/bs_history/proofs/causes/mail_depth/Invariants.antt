use Rattle.std.proofs.Common.{◌≡◌, max, drop}
use Rattle.bs_semantics.specs.Run.{greatest}
use Rattle.bs_history.proofs.causes.mail_depth.Given as goal

abbrev pub invariant-loop-origin : goal.invariant-loop-origin
invariant-loop-origin l = record {
  left : max l.depth (greatest (λ c. c.depth) (drop l.origin-index l.origins)) ≡ greatest (λ c. c.depth) l.origins;
}
