use Rattle.bs_semantics.proofs.SomeSerial.{some_answer, unclean_answer}
use Rattle.bs_semantics.proofs.laws.some_serial.Goals as goal

pub returns : goal.returns
returns c = record { some = some_answer; unclean = unclean_answer }
