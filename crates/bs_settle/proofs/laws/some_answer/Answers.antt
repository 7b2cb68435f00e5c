use Rattle.bs_settle.proofs.SomeNoting.{some_noted, some_settled}
use Rattle.bs_settle.proofs.laws.some_answer.Goals as goal

pub returns-clause-settling : goal.returns-clause-settling
returns-clause-settling c = some_settled

pub returns-clause-noting : goal.returns-clause-noting
returns-clause-noting c = some_noted
