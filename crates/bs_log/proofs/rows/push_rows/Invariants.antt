use Rattle.std.proofs.Common.{◌≡◌, ◌++◌, drop, map}
use Rattle.bs_log.specs.Collected.{row_of}
use Rattle.bs_log.specs.Linked.{AreLinked}
use Rattle.bs_log.proofs.rows.push_rows.Given as goal

abbrev pub invariant-loop-block : goal.invariant-loop-block
invariant-loop-block l = record {
  linked : AreLinked l.histories l.chare (drop l.block-index l.blocks);
  done : l.rows ++ map (row_of l.histories l.chare) (drop l.block-index l.blocks) ≡ l.initial.rows ++ map (row_of l.histories l.chare) l.blocks;
}
