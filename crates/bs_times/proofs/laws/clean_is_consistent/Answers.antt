use Rattle.bs_times.proofs.RacingWaves.{clean_is_consistent}
use Rattle.bs_times.proofs.laws.clean_is_consistent.Goals as goal

pub returns : goal.returns
returns c = clean_is_consistent
