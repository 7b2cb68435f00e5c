use Rattle.bs_whatif.proofs.ValidAgain.{same_messages, valid_again}
use Rattle.bs_whatif.proofs.laws.rescaling.Goals as goal

pub returns-clause-valid : goal.returns-clause-valid
returns-clause-valid c = valid_again

pub returns-clause-listed : goal.returns-clause-listed
returns-clause-listed c = same_messages
