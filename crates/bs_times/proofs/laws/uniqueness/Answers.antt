use Rattle.bs_times.proofs.Exists.{consistent_exists}
use Rattle.bs_times.proofs.Unique.{one_consistent_table}
use Rattle.bs_times.proofs.Whole.{some_table, same_table}
use Rattle.bs_times.proofs.laws.uniqueness.Goals as goal

pub returns : goal.returns
returns c = record { some = some_table; one = same_table; some_of = consistent_exists; one_of = one_consistent_table }
