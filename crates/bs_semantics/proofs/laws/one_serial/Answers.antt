use Rattle.std.proofs.Common.{[]}
use Rattle.bs_semantics.proofs.laws.one_serial.Goals as goal
use Rattle.bs_semantics.proofs.OneSerial.{one_answer}

pub returns : goal.returns
returns c = λ p limit m r s first second. one_answer p limit m [] r s first second
