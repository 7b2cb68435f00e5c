use Rattle.std.proofs.Common.{subst}
use Rattle.bs_log.specs.Lists.{Mem}
use Rattle.bs_whatif.proofs.scaling.scaled_row.Goals as goal

pub scaled_sends-requires-clause-cheap : goal.scaled_sends-requires-clause-cheap
scaled_sends-requires-clause-cheap c s m = c.requires.cheap.offsets s (subst (Mem s) c.as_slice.ensures m)
