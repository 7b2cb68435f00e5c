use Rattle.bs_logread.proofs.Unique.{one_text}
use Rattle.bs_logread.proofs.laws.one_text.Goals as goal

pub returns : goal.returns
returns c = one_text
