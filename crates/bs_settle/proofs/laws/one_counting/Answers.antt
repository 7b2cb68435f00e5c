use Rattle.bs_settle.proofs.FirstStill.{one_first, some_first}
use Rattle.bs_settle.proofs.laws.one_counting.Goals as goal

pub returns-clause-some : goal.returns-clause-some
returns-clause-some c = some_first

pub returns-clause-one : goal.returns-clause-one
returns-clause-one c = one_first
