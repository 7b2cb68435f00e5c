use Rattle.bs_parse.proofs.OneText.{one}
use Rattle.bs_parse.proofs.text_laws.one_program.Goals as goal

pub returns : goal.returns
returns c = one
