use Rattle.bs_times.proofs.Settled.{settled_is_consistent}
use Rattle.bs_times.proofs.laws.settled_is_consistent.Goals as goal

pub returns : goal.returns
returns c = settled_is_consistent
