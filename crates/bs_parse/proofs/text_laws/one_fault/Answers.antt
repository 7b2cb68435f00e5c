use Rattle.bs_parse.proofs.OneText.{one_fault}
use Rattle.bs_parse.proofs.text_laws.one_fault.Goals as goal

pub returns : goal.returns
returns c = one_fault
