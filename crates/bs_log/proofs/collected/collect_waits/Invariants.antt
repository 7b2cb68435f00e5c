use Rattle.std.proofs.Common.{◌≡◌, ◌++◌, drop}
use Rattle.bs_log.specs.Collected.{waits_from}
use Rattle.bs_log.proofs.collected.collect_waits.Given as goal

abbrev pub invariant-loop-chare : goal.invariant-loop-chare
invariant-loop-chare l = l.waits ++ waits_from l.chare (drop l.chare l.histories) ≡ waits_from 0 l.histories
