use Rattle.std.proofs.Common.{◌≡◌, drop}
use Rattle.bs_semantics.specs.Verdict.{sent_marks}
use Rattle.bs_rounds.specs.Naming.{none_seen, with_marks, seen_of}
use Rattle.bs_rounds.proofs.naming.sent_twice.Given as goal

abbrev pub invariant-loop-chare : goal.invariant-loop-chare
invariant-loop-chare l = with_marks (seen_of l.marks) (sent_marks l.chare (drop l.chare l.histories)) ≡ with_marks none_seen (sent_marks 0 l.histories)
