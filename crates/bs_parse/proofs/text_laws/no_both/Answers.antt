use Rattle.bs_parse.proofs.OneText.{not_both}
use Rattle.bs_parse.proofs.text_laws.no_both.Goals as goal

pub returns : goal.returns
returns c = not_both
