use Rattle.std.proofs.Common.{◌≡◌, ◌+◌, None, drop}
use Rattle.bs_logcheck.specs.Places.{has, nowhere}
use Rattle.bs_logcheck.specs.Searched.{first_wait}
use Rattle.bs_logcheck.proofs.ends.first_wait.Given as goal

abbrev pub invariant-loop-wait : goal.invariant-loop-wait
invariant-loop-wait l = record {
  at : l.line ≡ l.initial.line + l.wait-index;
  rest : first_wait l.log (has l.sent) (has l.seen) l.before l.line (drop l.wait-index l.log.waits) ≡ first_wait l.log (has l.sent) nowhere None l.initial.line l.log.waits;
}
