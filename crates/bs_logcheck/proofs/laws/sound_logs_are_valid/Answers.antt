use Rattle.bs_logcheck.proofs.Held.{sound_is_valid}
use Rattle.bs_logcheck.proofs.laws.sound_logs_are_valid.Goals as goal

pub returns : goal.returns
returns c = sound_is_valid
