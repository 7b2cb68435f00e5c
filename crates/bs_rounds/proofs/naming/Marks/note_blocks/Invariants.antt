use Rattle.std.proofs.Common.{◌≡◌, drop}
use Rattle.bs_semantics.specs.Verdict.{marks_of_blocks}
use Rattle.bs_rounds.specs.Naming.{with_marks, seen_of}
use Rattle.bs_rounds.proofs.naming.Marks.note_blocks.Given as goal

abbrev pub invariant-loop-block : goal.invariant-loop-block
invariant-loop-block l = with_marks (seen_of l.self) (marks_of_blocks l.chare (drop l.block-index l.blocks)) ≡ with_marks (seen_of l.initial.self) (marks_of_blocks l.chare l.blocks)
