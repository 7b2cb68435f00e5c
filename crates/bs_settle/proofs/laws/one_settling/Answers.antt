use Rattle.bs_settle.proofs.OneNoting.{either_spent, enough_settles, one_spent}
use Rattle.bs_settle.proofs.laws.one_settling.Goals as goal

pub returns-clause-spent : goal.returns-clause-spent
returns-clause-spent c = one_spent

pub returns-clause-either : goal.returns-clause-either
returns-clause-either c = either_spent

pub returns-clause-enough : goal.returns-clause-enough
returns-clause-enough c = enough_settles
