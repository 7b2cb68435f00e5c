use Rattle.std.proofs.lemmas.Bool.Decides.{Decides-at}
use Rattle.bs_log.specs.Checks.{passes}
use Rattle.bs_log.proofs.ClosedTests.{passes_is}
use Rattle.bs_log.proofs.closed.is_closed.Goals as goal

pub returns : goal.returns
returns c = Decides-at c.passes.result (passes c.args.histories.now) c.passes.ensures (passes_is c.args.histories.now)
