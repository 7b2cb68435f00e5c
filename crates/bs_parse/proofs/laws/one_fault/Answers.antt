use Rattle.bs_parse.proofs.laws.one_fault.Goals as goal
use Rattle.bs_parse.proofs.OneFault.{one_first, none_of_program}

pub returns : goal.returns
returns c = record { one = one_first; none = none_of_program }
