use Rattle.std.proofs.Common.{◌≡◌, ◌∷◌, ◌+◌, drop, sym, ap, ◌∙◌}
use Rattle.std.proofs.lemmas.List.{at_drop_all}
use Rattle.bs_semantics.specs.Verdict.{marks_of_blocks, sent_marks}
use Rattle.bs_check.proofs.Rows.{drop_item}
use Rattle.bs_rounds.specs.Naming.{with_marks, seen_of}
use Rattle.bs_rounds.proofs.NamingMarks.{part_done, all_named}
use Rattle.bs_rounds.proofs.naming.sent_twice.Goals as goal

pub loop-chare-preserved : goal.loop-chare-preserved
loop-chare-preserved c =
    let h = c.index-histories-chare.result in
    let chare = c.loop-chare.chare in
    let rest = drop (chare + 1) c.args.histories.now in
    let left : drop chare c.args.histories.now ≡ h ∷ rest = drop_item c.args.histories.now chare h h c.loop-chare-test.true c.index-histories-chare.is in
    part_done (seen_of c.loop-chare.marks) (seen_of c.note_blocks.new.self) _ (marks_of_blocks chare h.blocks) (sent_marks (chare + 1) rest) _ (ap (sent_marks chare) left) (c.in_ok-note_blocks.ensures ∙ ap (λ xs. with_marks (seen_of c.loop-chare.marks) (marks_of_blocks chare xs)) c.as_slice.ensures) c.loop-chare.invariant

pub returns : goal.returns
returns c =
    let end = at_drop_all (λ hs. with_marks (seen_of c.loop-chare.marks) (sent_marks c.loop-chare.chare hs)) c.args.histories.now c.loop-chare.chare c.loop-chare-test.false in
    ap (λ s. s.least) (sym end ∙ c.loop-chare.invariant) ∙ all_named (sent_marks 0 c.args.histories.now)
