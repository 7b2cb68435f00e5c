use Rattle.std.proofs.Common.{◌≡◌, min, ◌^◌, ◌-◌, ◌+◌, ◌<◌, drop, sum_by}
use Rattle.bs_log.specs.Messages.{times_of}
use Rattle.bs_log.proofs.messages.times_sent.Given as goal

abbrev pub invariant-loop-history : goal.invariant-loop-history
invariant-loop-history l = record {
  fits : l.times < 2 ^ 64;
  total : min (l.times + sum_by (times_of l.chare l.key) (drop l.history-index l.histories)) (2 ^ 64 - 1) ≡ min (sum_by (times_of l.chare l.key) l.histories) (2 ^ 64 - 1);
}
