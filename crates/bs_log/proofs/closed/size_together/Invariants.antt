use Rattle.std.proofs.Common.{◌≡◌, min, ◌^◌, ◌-◌, ◌+◌, ◌<◌, drop}
use Rattle.bs_log.specs.Size.{size_all}
use Rattle.bs_log.proofs.closed.size_together.Given as goal

abbrev pub invariant-loop-history : goal.invariant-loop-history
invariant-loop-history l = record {
  fits : l.together < 2 ^ 64;
  total : min (l.together + size_all (drop l.history-index l.histories)) (2 ^ 64 - 1) ≡ min (size_all l.histories) (2 ^ 64 - 1);
}
