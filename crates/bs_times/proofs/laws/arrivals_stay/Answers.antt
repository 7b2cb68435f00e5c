use Rattle.bs_times.proofs.Stays.{waves_stay}
use Rattle.bs_times.proofs.laws.arrivals_stay.Goals as goal

pub returns : goal.returns
returns c = waves_stay
