use Rattle.bs_serial.proofs.Whole.{enabled_is_due}
use Rattle.bs_serial.proofs.laws.due_blocks.Goals as goal

pub returns : goal.returns
returns c = enabled_is_due
