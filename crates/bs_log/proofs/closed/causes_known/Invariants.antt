use Rattle.std.proofs.Common.{◌≡◌, [], take, drop}
use Rattle.bs_log.specs.Checks.{causes_known}
use Rattle.bs_log.proofs.closed.causes_known.Given as goal

abbrev pub invariant-loop-place : goal.invariant-loop-place
invariant-loop-place l = causes_known (take l.place l.blocks) (drop l.place l.blocks) ≡ causes_known [] l.blocks
