use Rattle.bs_logcheck.proofs.Found.{found_is}
use Rattle.bs_logcheck.proofs.checker.first_broken.Goals as goal

pub returns : goal.returns
returns c = found_is c.args.log.now c.first_of.result c.first_of.ensures
