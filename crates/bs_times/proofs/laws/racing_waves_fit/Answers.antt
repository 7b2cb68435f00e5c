use Rattle.bs_times.proofs.WaveBounds.{race_fits, racing_wave_fits, racing_waves_fit}
use Rattle.bs_times.proofs.laws.racing_waves_fit.Goals as goal

pub returns : goal.returns
returns c = record { course = race_fits; wave = racing_wave_fits; waves = racing_waves_fit }
