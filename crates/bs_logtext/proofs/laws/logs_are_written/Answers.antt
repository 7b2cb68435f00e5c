use Rattle.bs_logtext.proofs.Written.{log_written, verdict_written}
use Rattle.bs_logtext.proofs.laws.logs_are_written.Goals as goal

pub returns : goal.returns
returns c = record { closed = log_written; verdict = verdict_written }
