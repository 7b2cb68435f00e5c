use Rattle.std.proofs.Common.{◌≡◌, min, ◌^◌, ◌-◌, ◌+◌, ◌<◌, drop, sum_by}
use Rattle.bs_log.specs.Size.{size, block_size}
use Rattle.bs_log.proofs.sizes.size.Given as goal

abbrev pub invariant-loop-block : goal.invariant-loop-block
invariant-loop-block l = record {
  fits : l.size < 2 ^ 64;
  total : min (l.size + sum_by block_size (drop l.block-index l.block-items)) (2 ^ 64 - 1) ≡ min (size l.history) (2 ^ 64 - 1);
}
