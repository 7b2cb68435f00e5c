use Rattle.std.proofs.Common.{drop}
use Rattle.bs_settle.proofs.Sorted.{AreSorted}
use Rattle.bs_settle.proofs.gathering.in_order.Given as goal

abbrev pub invariant-loop-correction : goal.invariant-loop-correction
invariant-loop-correction l = AreSorted l.gathered (drop l.correction-index l.gathered) l.sorted.entries
