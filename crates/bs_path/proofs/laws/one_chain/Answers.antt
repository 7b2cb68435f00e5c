use Rattle.bs_path.proofs.OneChain.{one_chain}
use Rattle.bs_path.proofs.Ways.{some_chain}
use Rattle.bs_path.proofs.laws.one_chain.Goals as goal

pub returns : goal.returns
returns c = record { some = λ log m v t s table. some_chain log m v t s table; one = one_chain }
