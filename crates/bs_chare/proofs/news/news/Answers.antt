use Rattle.std.proofs.Common.{sym, ◌∙◌}
use Rattle.bs_chare.proofs.NewSends.{next_block, step_known, step_unknown, still_within}
use Rattle.bs_chare.proofs.news.news.Goals.{then-is_next, else-is_next+in_ok-push_messages}
use Rattle.bs_chare.proofs.news.news.Goals as goal

pub loop-block-preserved : goal.loop-block-preserved
loop-block-preserved c =
    let l = c.loop-block in
    let b = c.block-item.result in
    let next = next_block c.args.blocks.now l.block-index b c.loop-block-test.true c.block-item.is in
    elim c.if-is_next.branch [
      | then-is_next w ↦ step_known c.args.before.now b _ _ l.sent _ _ l.known _ next l.invariant.within l.invariant.so_far (sym w.if-is_next.ensures) w.known-is w.sent-is
      | else-is_next+in_ok-push_messages w ↦ step_unknown c.args.before.now b _ _ l.sent _ _ l.known _ next l.invariant.within l.invariant.so_far (sym w.if-is_next.ensures) w.known-is _ (w.sent-is ∙ w.in_ok-push_messages.ensures) w.as_slice.ensures
    ]
