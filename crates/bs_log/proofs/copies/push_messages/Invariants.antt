use Rattle.std.proofs.Common.{◌≡◌, ◌≤◌, ◌++◌, ℕ, ◌+◌, length, take, drop}
use Rattle.bs_log.proofs.copies.push_messages.Given as goal

abbrev pub invariant-loop-message : goal.invariant-loop-message
invariant-loop-message l = l.all ≡ l.initial.all ++ take l.message-index l.messages
