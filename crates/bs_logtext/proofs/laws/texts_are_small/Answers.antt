use Rattle.bs_logtext.proofs.Lengths.{text_is_small}
use Rattle.bs_logtext.proofs.laws.texts_are_small.Goals as goal

pub returns : goal.returns
returns c = text_is_small
