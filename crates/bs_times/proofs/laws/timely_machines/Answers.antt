use Rattle.bs_times.proofs.Causal.{fitted_is_timely}
use Rattle.bs_times.proofs.laws.timely_machines.Goals as goal

pub returns : goal.returns
returns c = fitted_is_timely
