use Rattle.bs_serial.proofs.Verdicts.{causal_log, verdict_told, verdict_gives, verdict_unclean}
use Rattle.bs_serial.proofs.laws.verdict_times.Goals as goal

pub returns : goal.returns
returns c = record { causal = causal_log; timed = verdict_told; told = verdict_gives; unclean = verdict_unclean }
