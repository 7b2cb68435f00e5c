use Rattle.bs_semantics.proofs.laws.closed_sets.Goals as goal
use Rattle.bs_semantics.proofs.SortedCauses.{closed_sorted}
use Rattle.bs_semantics.proofs.ClosedSets.{passes, any_order}

pub returns : goal.returns
returns c = record { passes = passes; order = any_order; causes = closed_sorted }
