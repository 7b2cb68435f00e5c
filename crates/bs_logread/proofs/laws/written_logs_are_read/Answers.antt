use Rattle.bs_logread.proofs.Unique.{valid_read, valid_only}
use Rattle.bs_logread.proofs.laws.written_logs_are_read.Goals as goal

pub returns-clause-read : goal.returns-clause-read
returns-clause-read c = valid_read

pub returns-clause-only : goal.returns-clause-only
returns-clause-only c = valid_only
