use Rattle.bs_parse.proofs.Counted.{few_statements, same_names}
use Rattle.bs_parse.proofs.laws.counted.Goals as goal

pub returns : goal.returns
returns c = record { statements = few_statements; names = same_names }
