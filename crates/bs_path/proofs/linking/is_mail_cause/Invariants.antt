use Rattle.std.proofs.Common.{drop}
use Rattle.bs_log.specs.Lists.{Mem}
use Rattle.bs_times.specs.Net.{row_of}
use Rattle.bs_path.proofs.linking.is_mail_cause.Given as goal

abbrev pub invariant-loop-cause : goal.invariant-loop-cause
invariant-loop-cause l = Mem l.mail (row_of l.log l.number).mail → Mem l.mail (drop l.cause-index l.cause-items)
