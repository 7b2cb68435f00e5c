use Rattle.bs_path.proofs.Sounds.{critical_sound}
use Rattle.bs_path.proofs.laws.critical_is_sound.Goals as goal

pub returns : goal.returns
returns c = λ net causal s table chain is. critical_sound net causal s chain is
