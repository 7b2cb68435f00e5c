use Rattle.bs_times.proofs.RacingWaves.{racing_waves_settle}
use Rattle.bs_times.proofs.SomeRacing.{some_racing_waves}
use Rattle.bs_times.proofs.Whole.{racing_waves}
use Rattle.bs_times.proofs.laws.racing_waves.Goals as goal

pub returns : goal.returns
returns c = record { some = some_racing_waves; rest = racing_waves; rest_of = racing_waves_settle }
