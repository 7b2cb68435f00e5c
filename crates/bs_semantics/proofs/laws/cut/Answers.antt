use Rattle.bs_semantics.proofs.laws.cut.Goals as goal
use Rattle.bs_semantics.proofs.Cut.{uncut}

pub returns : goal.returns
returns c = uncut
