use Rattle.bs_top.proofs.OneAnswer.{one}
use Rattle.bs_top.proofs.laws.one_answer.Goals as goal

pub returns : goal.returns
returns c = one c.known.ensures
