use Rattle.std.proofs.lemmas.Bool.Decides.{Decides-at}
use Rattle.bs_log.specs.ValidTest.{passes}
use Rattle.bs_log.proofs.ValidTests.{valid_is}
use Rattle.bs_log.proofs.validity.valid.Goals as goal

pub returns : goal.returns
returns c = Decides-at c.passes.result (passes c.args.log.now) c.passes.ensures (valid_is c.args.log.now)
