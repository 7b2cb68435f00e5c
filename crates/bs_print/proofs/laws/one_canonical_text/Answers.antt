use Rattle.bs_print.proofs.OneText.{one_text}
use Rattle.bs_print.proofs.laws.one_canonical_text.Goals as goal

pub returns : goal.returns
returns c = one_text
