use Rattle.bs_whatif.proofs.OnePoint.{few_waves, one_point, some_point}
use Rattle.bs_whatif.proofs.laws.one_point.Goals as goal

pub returns-clause-some : goal.returns-clause-some
returns-clause-some c = some_point

pub returns-clause-one : goal.returns-clause-one
returns-clause-one c = one_point

pub returns-clause-few : goal.returns-clause-few
returns-clause-few c = few_waves
