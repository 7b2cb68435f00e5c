use Rattle.std.proofs.Common.{refl}
use Rattle.bs_settle.proofs.Budget.{budget_few}
use Rattle.bs_settle.proofs.laws.budget_is_few.Goals as goal

pub returns : goal.returns
returns c = record { one = λ log machine. refl; few = budget_few }
