use Rattle.bs_log.specs.Collected.{log_of}
use Rattle.bs_log.proofs.Links.{linked}
use Rattle.bs_log.proofs.Order.{rows_rise}
use Rattle.bs_log.proofs.laws.numbers_rise.Goals as goal

pub returns : goal.returns
unfolding log_of
returns c hs entries looks rise r m = rows_rise hs 0 hs (linked hs looks) rise r m
