use Rattle.std.proofs.Common.{◌≡◌, drop}
use Rattle.bs_semantics.specs.Verdict.{marks_of_asked}
use Rattle.bs_rounds.specs.Naming.{with_marks, seen_of}
use Rattle.bs_rounds.proofs.naming.Marks.note_asked.Given as goal

abbrev pub invariant-loop-asked : goal.invariant-loop-asked
invariant-loop-asked l = with_marks (seen_of l.self) (marks_of_asked l.chare (drop l.asked-index l.keys)) ≡ with_marks (seen_of l.initial.self) (marks_of_asked l.chare l.keys)
