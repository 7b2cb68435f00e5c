use Rattle.bs_times.proofs.Unique.{one_table}
use Rattle.bs_times.proofs.Whole.{one_line}
use Rattle.bs_times.proofs.laws.one_table.Goals as goal

pub returns : goal.returns
returns c = record { line = one_line; all = one_table }
