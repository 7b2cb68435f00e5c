use Rattle.bs_times.proofs.Causal.{causal_net}
use Rattle.bs_times.proofs.laws.causal_nets.Goals as goal

pub returns : goal.returns
returns c = causal_net
