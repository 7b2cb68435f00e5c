use Rattle.std.proofs.Common.{ap, sym, ◌∙◌, reverse}
use Rattle.bs_semantics.specs.Run.{put_all}
use Rattle.bs_history.proofs.Places.{put_all_behind}
use Rattle.bs_history.proofs.ordered.put_items.Goals as goal

pub loop-item-preserved : goal.loop-item-preserved
loop-item-preserved g c =
    let rest = c.next.new.self.rest.items in
    let into = reverse c.loop-item.into.items in
    record {
      left = ap (put_all (g.T.Ordered.order) (reverse rest)) c.in_ok-put_item.ensures
          ∙ (sym (ap (λ xs. put_all (g.T.Ordered.order) (reverse xs) into) c.in-Some.ensures.steps.0 ∙ put_all_behind (g.T.Ordered.order) c.in-Some.item rest into)
          ∙ c.loop-item.invariant.left);
    }
