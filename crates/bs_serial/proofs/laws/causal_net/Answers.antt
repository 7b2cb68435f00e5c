use Rattle.bs_serial.proofs.Whole as whole
use Rattle.bs_serial.proofs.laws.causal_net.Goals as goal

pub returns : goal.returns
returns c = whole.causal_net
