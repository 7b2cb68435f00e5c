use Rattle.bs_times.proofs.Bounds.{line_ends, line_fits}
use Rattle.bs_times.proofs.WaveBounds.{wave_small, line_small}
use Rattle.bs_times.proofs.laws.line_fits.Goals as goal

pub returns : goal.returns
returns c = record { ends = line_ends; gives = line_fits; small = wave_small; alone = line_small }
