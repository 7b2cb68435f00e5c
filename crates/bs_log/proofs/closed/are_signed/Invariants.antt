use Rattle.std.proofs.Common.{◌≡◌, ◌+◌, drop}
use Rattle.bs_log.specs.Checks.{are_signed}
use Rattle.bs_log.proofs.closed.are_signed.Given as goal

abbrev pub invariant-loop-place : goal.invariant-loop-place
invariant-loop-place l = are_signed l.chare l.block (l.place + 1) (drop l.place l.block.sends) ≡ are_signed l.chare l.block 1 l.block.sends
