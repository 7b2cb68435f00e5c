use Rattle.std.proofs.Common.{◌≡◌, ◌∷◌, ◌+◌, drop, ap, ◌∙◌}
use Rattle.bs_semantics.specs.Verdict.{marks_of_sends, marks_of_blocks}
use Rattle.bs_check.proofs.Rows.{drop_item}
use Rattle.bs_rounds.specs.Naming.{with_marks, seen_of}
use Rattle.bs_rounds.proofs.NamingMarks.{part_done}
use Rattle.bs_rounds.proofs.naming.Marks.note_blocks.Goals as goal

pub loop-block-preserved : goal.loop-block-preserved
loop-block-preserved c =
    let b = c.block-item.result in
    let rest = drop (c.loop-block.block-index + 1) c.args.blocks.now in
    let left : drop c.loop-block.block-index c.args.blocks.now ≡ b ∷ rest = drop_item c.args.blocks.now c.loop-block.block-index b b c.loop-block-test.true c.block-item.is in
    let sends = marks_of_sends (record { chare = c.args.chare; stmt = b.stmt }) in
    part_done (seen_of c.loop-block.self) (seen_of c.note_sends.new.self) _ (sends b.sends) (marks_of_blocks c.args.chare rest) _ (ap (marks_of_blocks c.args.chare) left) (c.in_ok-note_sends.ensures ∙ ap (λ ms. with_marks (seen_of c.loop-block.self) (sends ms)) c.as_slice.ensures) c.loop-block.invariant
