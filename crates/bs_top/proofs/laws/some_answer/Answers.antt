use Rattle.bs_top.proofs.SomeAnswer.{some}
use Rattle.bs_top.proofs.laws.some_answer.Goals as goal

pub returns : goal.returns
returns c = some c.known.ensures c.some_laws.ensures
