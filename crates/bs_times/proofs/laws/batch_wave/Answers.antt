use Rattle.bs_times.proofs.Batch.{batch_wave}
use Rattle.bs_times.proofs.laws.batch_wave.Goals as goal

pub returns : goal.returns
returns c = batch_wave
