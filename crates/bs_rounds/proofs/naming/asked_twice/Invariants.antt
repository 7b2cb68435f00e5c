use Rattle.std.proofs.Common.{◌≡◌, drop}
use Rattle.bs_semantics.specs.Verdict.{asked_marks}
use Rattle.bs_rounds.specs.Naming.{none_seen, with_marks, seen_of}
use Rattle.bs_rounds.proofs.naming.asked_twice.Given as goal

abbrev pub invariant-loop-chare : goal.invariant-loop-chare
invariant-loop-chare l = with_marks (seen_of l.marks) (asked_marks l.chare (drop l.chare l.histories)) ≡ with_marks none_seen (asked_marks 0 l.histories)
