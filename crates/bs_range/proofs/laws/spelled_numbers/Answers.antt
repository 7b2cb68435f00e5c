use Rattle.bs_range.proofs.Spelled.{spelled_small}
use Rattle.bs_range.proofs.laws.spelled_numbers.Goals as goal

pub returns : goal.returns
returns c = spelled_small
