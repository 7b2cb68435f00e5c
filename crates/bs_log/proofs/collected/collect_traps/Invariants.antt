use Rattle.std.proofs.Common.{◌≡◌, ◌++◌, drop}
use Rattle.bs_log.specs.Collected.{traps_from}
use Rattle.bs_log.proofs.collected.collect_traps.Given as goal

abbrev pub invariant-loop-chare : goal.invariant-loop-chare
invariant-loop-chare l = l.traps ++ traps_from l.chare (drop l.chare l.histories) ≡ traps_from 0 l.histories
