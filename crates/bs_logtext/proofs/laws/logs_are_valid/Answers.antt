use Rattle.bs_logtext.proofs.Whole.{whole}
use Rattle.bs_logtext.proofs.laws.logs_are_valid.Goals as goal

pub returns : goal.returns
returns c = whole
