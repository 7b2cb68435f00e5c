use Rattle.bs_path.proofs.Table.{the_table}
use Rattle.bs_path.proofs.laws.times_are_the_table.Goals as goal

pub returns : goal.returns
returns c = λ log m times v t are. the_table log m times are v t
