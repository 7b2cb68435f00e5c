use Rattle.bs_semantics.proofs.laws.growth.Goals as goal
use Rattle.bs_semantics.proofs.Growth.{grows, grows_whole}

pub returns : goal.returns
returns c = record { statements = grows; histories = grows_whole }
