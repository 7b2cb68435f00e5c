use Rattle.std.proofs.Common.{◌≡◌, reverse}
use Rattle.bs_semantics.specs.Run.{put_all}
use Rattle.bs_history.proofs.ordered.put_items.Given as goal

abbrev pub invariant-loop-item : goal.invariant-loop-item
invariant-loop-item g l = record {
  left : put_all (g.T.Ordered.order) (reverse l.item-iterator.rest.items) (reverse l.into.items) ≡ put_all (g.T.Ordered.order) (reverse l.fn.items.items) (reverse l.fn.into.items);
}
