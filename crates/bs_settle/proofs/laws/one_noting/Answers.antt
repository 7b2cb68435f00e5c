use Rattle.bs_settle.proofs.OneNoting.{any_settled, enough_settles, noted_moving, noted_still, one_noted}
use Rattle.bs_settle.proofs.laws.one_noting.Goals as goal

pub returns-clause-one : goal.returns-clause-one
returns-clause-one c = one_noted

pub returns-clause-still : goal.returns-clause-still
returns-clause-still c = noted_still

pub returns-clause-moving : goal.returns-clause-moving
returns-clause-moving c = noted_moving

pub returns-clause-enough : goal.returns-clause-enough
returns-clause-enough c net causal estimates most lists enough n = noted_moving net causal estimates most lists n (enough_settles net causal estimates most enough)

pub returns-clause-any : goal.returns-clause-any
returns-clause-any c = any_settled
