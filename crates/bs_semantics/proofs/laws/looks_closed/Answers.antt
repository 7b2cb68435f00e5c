use Rattle.bs_semantics.proofs.LooksClosed.{looks_closed}
use Rattle.bs_semantics.proofs.laws.looks_closed.Goals as goal

pub returns : goal.returns
returns c = looks_closed
