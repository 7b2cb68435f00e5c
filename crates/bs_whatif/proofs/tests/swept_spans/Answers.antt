use Rattle.std.proofs.Common.{subst}
use Rattle.bs_log.specs.Lists.{Mem}
use Rattle.bs_whatif.proofs.tests.swept_spans.Goals as goal

pub sweep_spans-requires-clause-fitted : goal.sweep_spans-requires-clause-fitted
sweep_spans-requires-clause-fitted c m is = c.in_ok-machines.ensures m (subst (Mem m) c.as_slice.ensures is)
