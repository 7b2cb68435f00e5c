use Rattle.bs_whatif.proofs.OnePoint.{one_times, same_point}
use Rattle.bs_whatif.proofs.laws.any_ticks.Goals as goal

pub returns-clause-times : goal.returns-clause-times
returns-clause-times c log m v before other p q h k = (same_point log m v before other p q h k).0

pub returns-clause-ticks : goal.returns-clause-ticks
returns-clause-ticks c log m v before other p q h k = (same_point log m v before other p q h k).1

pub returns-clause-table : goal.returns-clause-table
returns-clause-table c log m v before p times h are = one_times log m v p.times times h.times are
