use Rattle.bs_times.proofs.Serial.{run_is_consistent}
use Rattle.bs_times.proofs.laws.run_is_consistent.Goals as goal

pub returns : goal.returns
returns c = run_is_consistent
