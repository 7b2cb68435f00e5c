use Rattle.bs_settle.specs.Timed.{numbers}
use Rattle.bs_whatif.proofs.Leasts.{best_is}
use Rattle.bs_whatif.proofs.choosing.best.Goals as goal

pub returns : goal.returns
returns c = best_is (numbers c.args.spans.now) c.first_least.result c.first_least.ensures
