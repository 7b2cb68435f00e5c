use Rattle.bs_lex.proofs.FaultLemmas.{needs_no_memory}
use Rattle.bs_lex.proofs.laws.faults_are_of_the_text.Goals as goal

pub returns : goal.returns
returns c = needs_no_memory
