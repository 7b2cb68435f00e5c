use Rattle.bs_times.proofs.Waves.{waves_settle}
use Rattle.bs_times.proofs.Repeated.{some_waves, same_waves}
use Rattle.bs_times.proofs.Whole.{waves}
use Rattle.bs_times.proofs.laws.waves.Goals as goal

pub returns : goal.returns
returns c = record { some = some_waves; one = same_waves; rest = waves; right = waves_settle }
