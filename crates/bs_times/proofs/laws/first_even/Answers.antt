use Rattle.bs_times.proofs.Racing.{first_even}
use Rattle.bs_times.proofs.laws.first_even.Goals as goal

pub returns : goal.returns
returns c = first_even
