use Rattle.bs_semantics.proofs.Proper.{run_proper}
use Rattle.bs_semantics.proofs.laws.blocks.Goals as goal

pub returns : goal.returns
returns c = run_proper
