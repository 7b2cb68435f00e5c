use Rattle.std.proofs.Common.{length}
use Rattle.bs_top.proofs.inputs.+machines_behind.Given as goal

abbrev pub decreases-machines_behind : goal.decreases-machines_behind
decreases-machines_behind g l = length l.words.now
