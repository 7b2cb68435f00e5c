use Rattle.bs_semantics.proofs.Starting.{stuck_closed, partly}
use Rattle.bs_semantics.proofs.laws.starting.Goals as goal

pub returns : goal.returns
returns c = record { stuck = stuck_closed; within = partly }
