use Rattle.std.proofs.Common.{◌≡◌, drop}
use Rattle.bs_log.specs.Checks.{are_sound}
use Rattle.bs_log.proofs.closed.are_sound.Given as goal

abbrev pub invariant-loop-chare : goal.invariant-loop-chare
invariant-loop-chare l = are_sound l.histories l.chare (drop l.chare l.histories) ≡ are_sound l.histories 0 l.histories
