use Rattle.bs_parse.proofs.SomeText.{some}
use Rattle.bs_parse.proofs.text_laws.some_answer.Goals as goal

pub returns : goal.returns
returns c = some
