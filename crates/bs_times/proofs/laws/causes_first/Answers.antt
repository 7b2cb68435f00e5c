use Rattle.bs_times.proofs.First.{block_first, message_first}
use Rattle.bs_times.proofs.laws.causes_first.Goals as goal

pub returns : goal.returns
returns c = record { blocks = block_first; messages = message_first }
