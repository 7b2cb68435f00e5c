use Rattle.std.proofs.Common.{◌≡◌, drop}
use Rattle.bs_log.specs.Checks.{rise_after, rise}
use Rattle.bs_log.proofs.closed.rise.Given as goal

abbrev pub invariant-loop-block : goal.invariant-loop-block
invariant-loop-block l = rise_after l.last.path (drop l.block-index l.rest) ≡ rise l.fn.blocks
