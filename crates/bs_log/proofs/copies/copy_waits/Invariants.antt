use Rattle.std.proofs.Common.{◌≡◌, ◌≤◌, ◌++◌, ℕ, ◌+◌, length, take, drop}
use Rattle.bs_log.proofs.copies.copy_waits.Given as goal

abbrev pub invariant-loop-wait : goal.invariant-loop-wait
invariant-loop-wait l = l.copy ≡ take l.wait-index l.waits
