use Rattle.bs_times.proofs.Exists.{table_exists}
use Rattle.bs_times.proofs.laws.table_exists.Goals as goal

pub returns : goal.returns
returns c = table_exists
