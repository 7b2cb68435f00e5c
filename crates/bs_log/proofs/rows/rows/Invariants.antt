use Rattle.std.proofs.Common.{◌≡◌, ◌++◌, drop}
use Rattle.bs_log.specs.Collected.{rows_from}
use Rattle.bs_log.specs.Linked.{AllLinked}
use Rattle.bs_log.proofs.rows.rows.Given as goal

abbrev pub invariant-loop-chare : goal.invariant-loop-chare
invariant-loop-chare l = record {
  linked : AllLinked l.histories l.chare (drop l.chare l.histories);
  done : l.rows ++ rows_from l.histories l.chare (drop l.chare l.histories) ≡ rows_from l.histories 0 l.histories;
}
