use Rattle.bs_path.proofs.Sounds.{sound_first, sound_sum}
use Rattle.bs_path.proofs.laws.sound_adds_up.Goals as goal

pub returns : goal.returns
returns c = record { first = sound_first; sum = sound_sum }
