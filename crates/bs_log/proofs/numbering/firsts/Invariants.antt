use Rattle.std.proofs.Common.{◌≡◌, ◌≤◌, ◌+◌, ◌++◌, drop}
use Rattle.bs_log.specs.Collected.{blocks_in}
use Rattle.bs_log.specs.Linked.{firsts_from}
use Rattle.bs_log.proofs.numbering.firsts.Given as goal

abbrev pub invariant-loop-history : goal.invariant-loop-history
invariant-loop-history l = record {
  fits : l.before + blocks_in (drop l.history-index l.histories) ≤ 262144;
  done : l.firsts.items ++ firsts_from l.before (drop l.history-index l.histories) ≡ firsts_from 0 l.histories;
}
