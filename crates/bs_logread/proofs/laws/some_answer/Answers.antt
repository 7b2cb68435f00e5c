use Rattle.bs_logread.proofs.SomeText.{some}
use Rattle.bs_logread.proofs.laws.some_answer.Goals as goal

pub returns : goal.returns
returns c = some
