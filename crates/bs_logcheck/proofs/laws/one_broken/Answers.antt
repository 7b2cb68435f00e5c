use Rattle.bs_logcheck.proofs.Found.{only_one}
use Rattle.bs_logcheck.proofs.laws.one_broken.Goals as goal

pub returns : goal.returns
returns c = only_one
