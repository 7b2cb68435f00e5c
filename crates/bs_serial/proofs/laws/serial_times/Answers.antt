use Rattle.bs_serial.proofs.Whole.{timed_told, model_gives, is_unclean}
use Rattle.bs_serial.proofs.laws.serial_times.Goals as goal

pub returns : goal.returns
returns c = record {
  timed = timed_told;
  told = λ p limit n m s. model_gives p limit m n s;
  unclean = is_unclean;
}
