use Rattle.std.proofs.Common.{drop}
use Rattle.bs_log.specs.Lists.{Mem}
use Rattle.bs_times.specs.Net.{row_of}
use Rattle.bs_path.proofs.linking.is_block_cause.Given as goal

abbrev pub invariant-loop-cause : goal.invariant-loop-cause
invariant-loop-cause l = Mem l.row (row_of l.log l.number).after → Mem l.row (drop l.cause-index l.cause-items)
