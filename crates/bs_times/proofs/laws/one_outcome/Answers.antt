use Rattle.bs_times.proofs.Whole.{one_outcome}
use Rattle.bs_times.proofs.laws.one_outcome.Goals as goal

pub returns : goal.returns
returns c = one_outcome
