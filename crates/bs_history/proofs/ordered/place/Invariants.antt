use Rattle.std.proofs.Common.{◌≤◌, length}
use Rattle.bs_history.proofs.Places.{PutBefore}
use Rattle.bs_history.proofs.ordered.place.Given as goal

abbrev pub invariant-loop-at : goal.invariant-loop-at
invariant-loop-at g l = record {
  within : l.at ≤ length l.items;
  put : PutBefore (g.T.Ordered.order) l.item l.items l.at;
}

abbrev pub decreases-loop-at : goal.decreases-loop-at
decreases-loop-at g l = l.at
