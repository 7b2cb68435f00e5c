use Rattle.std.proofs.Common.{subst}
use Rattle.bs_log.specs.Lists.{Mem}
use Rattle.bs_whatif.proofs.tests.swept.Goals as goal

pub sweep-requires-clause-fitted : goal.sweep-requires-clause-fitted
sweep-requires-clause-fitted c m is = c.in_ok-machines.ensures m (subst (Mem m) c.as_slice.ensures is)
