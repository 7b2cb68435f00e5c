use Rattle.bs_print.proofs.Law.{printed_read}
use Rattle.bs_print.proofs.laws.printed_is_read.Goals as goal

pub returns : goal.returns
returns c = printed_read
