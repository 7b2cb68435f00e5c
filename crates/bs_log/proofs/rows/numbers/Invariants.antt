use Rattle.std.proofs.Common.{◌≡◌, ◌++◌, drop, map}
use Rattle.bs_log.specs.Collected.{number_of}
use Rattle.bs_log.specs.Linked.{AllHave}
use Rattle.bs_log.proofs.rows.numbers.Given as goal

abbrev pub invariant-loop-path : goal.invariant-loop-path
invariant-loop-path l = record {
  linked : AllHave l.histories l.chare (drop l.path-index l.paths);
  done : l.numbers ++ map (number_of l.histories l.chare) (drop l.path-index l.paths) ≡ map (number_of l.histories l.chare) l.paths;
}
