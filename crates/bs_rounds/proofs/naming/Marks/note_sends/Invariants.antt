use Rattle.std.proofs.Common.{◌≡◌, drop}
use Rattle.bs_semantics.specs.Verdict.{marks_of_sends}
use Rattle.bs_rounds.specs.Answer.{at_of}
use Rattle.bs_rounds.specs.Naming.{with_marks, seen_of}
use Rattle.bs_rounds.proofs.naming.Marks.note_sends.Given as goal

abbrev pub invariant-loop-message : goal.invariant-loop-message
invariant-loop-message l = with_marks (seen_of l.self) (marks_of_sends (at_of l.at) (drop l.message-index l.sends)) ≡ with_marks (seen_of l.initial.self) (marks_of_sends (at_of l.at) l.sends)
