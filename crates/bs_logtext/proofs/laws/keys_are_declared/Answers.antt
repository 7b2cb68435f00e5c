use Rattle.bs_logtext.proofs.Keys.{entries_named}
use Rattle.bs_logtext.proofs.laws.keys_are_declared.Goals as goal

pub returns : goal.returns
returns c = entries_named
