use Rattle.bs_times.proofs.Racing.{racing_wave}
use Rattle.bs_times.proofs.laws.racing_wave.Goals as goal

pub returns : goal.returns
returns c = racing_wave
