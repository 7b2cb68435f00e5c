use Rattle.bs_times.proofs.WaveBounds.{wave_fits, waves_fit}
use Rattle.bs_times.proofs.laws.waves_fit.Goals as goal

pub returns : goal.returns
returns c = record { wave = wave_fits; waves = waves_fit }
