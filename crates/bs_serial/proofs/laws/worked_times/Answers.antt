use Rattle.bs_serial.proofs.Example.{log_is, consistent, exchange_takes}
use Rattle.bs_serial.proofs.laws.worked_times.Goals as goal

pub returns : goal.returns
returns c = record { log = log_is; table = consistent; gives = exchange_takes }
