use Rattle.std.proofs.Common.{◌≡◌, ◌≤◌, map, take}
use Rattle.bs_log.specs.Size.{size_all}
use Rattle.bs_emul.proofs.Chares.{history_of}
use Rattle.bs_emul.proofs.collected.histories.Given as goal

abbrev pub invariant-loop-chare : goal.invariant-loop-chare
invariant-loop-chare l = record {
  so_far : l.histories.items ≡ take l.chare-index (map history_of l.chares);
  together : l.together ≡ size_all l.histories.items;
  small : l.together ≤ l.limit;
}
