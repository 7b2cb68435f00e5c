use Rattle.std.proofs.Common.{◌≡◌, ◌≤◌, ◌++◌, ℕ, ◌+◌, length, take, drop}
use Rattle.bs_chare.specs.News.{fresh}
use Rattle.bs_chare.proofs.news.news.Given as goal

abbrev pub invariant-loop-block : goal.invariant-loop-block
invariant-loop-block l = record {
  within : l.known ≤ length l.before;
  so_far : l.sent ++ fresh (drop l.known l.before) (drop l.block-index l.blocks) ≡ fresh l.before l.blocks;
}
