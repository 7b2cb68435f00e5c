use Rattle.std.proofs.Common.{◌≡◌, min, ◌^◌, ◌-◌, ◌+◌, ◌<◌, drop, sum_by}
use Rattle.bs_log.specs.Messages.{times_by}
use Rattle.bs_log.proofs.messages.times_in.Given as goal

abbrev pub invariant-loop-block : goal.invariant-loop-block
invariant-loop-block l = record {
  fits : l.times < 2 ^ 64;
  total : min (l.times + sum_by (times_by l.chare l.key) (drop l.block-index l.blocks)) (2 ^ 64 - 1) ≡ min (sum_by (times_by l.chare l.key) l.blocks) (2 ^ 64 - 1);
}
