use Rattle.std.proofs.Common.{arith, subst}
use Rattle.bs_whatif.specs.Best.{IsFirstLeast}
use Rattle.bs_whatif.proofs.Leasts.{first_least}
use Rattle.bs_whatif.proofs.laws.best_is_least.Goals as goal

pub returns : goal.returns
returns c spans place some is = subst (IsFirstLeast spans) (omega (arith, is)) (first_least spans some)
