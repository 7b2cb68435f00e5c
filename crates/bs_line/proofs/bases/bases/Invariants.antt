use Rattle.std.proofs.Common.{◌≡◌, ◌++◌, drop}
use Rattle.bs_line.specs.Line.{base_of}
use Rattle.bs_line.proofs.bases.bases.Given as goal

abbrev pub invariant-loop-k : goal.invariant-loop-k
invariant-loop-k l = l.base.items ++ base_of (drop l.k l.slots) l.held ≡ base_of l.slots l.held
