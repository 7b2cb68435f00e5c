use Rattle.std.proofs.Common.{◌≡◌, ◌≤◌, ◌++◌, ℕ, ◌+◌, length, take, drop}
use Rattle.bs_chare.specs.Asked.{askers}
use Rattle.bs_chare.proofs.asked.next_asker.Given as goal

abbrev pub invariant-loop-place : goal.invariant-loop-place
invariant-loop-place l = askers l.key (drop l.place l.asked) ≡ askers l.key l.asked
