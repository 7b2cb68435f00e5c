use Rattle.bs_times.proofs.Small.{short_net}
use Rattle.bs_times.proofs.laws.short_nets.Goals as goal

pub returns : goal.returns
returns c = short_net
