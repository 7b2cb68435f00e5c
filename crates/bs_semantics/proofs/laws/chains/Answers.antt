use Rattle.bs_semantics.proofs.laws.chains.Goals as goal
use Rattle.bs_semantics.proofs.Chains.{closed_shallow, closed_low, low}

pub returns : goal.returns
returns c = record { blocks = closed_shallow; messages = closed_low; rounds = low }
