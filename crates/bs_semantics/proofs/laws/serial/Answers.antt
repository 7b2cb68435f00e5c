use Rattle.bs_semantics.proofs.Reached.{reached_clean, never_unclean, timed_shows}
use Rattle.bs_semantics.proofs.laws.serial.Goals as goal

pub returns : goal.returns
returns c = record {
  clean = λ p limit n m bs h r. reached_clean p limit m n h bs r;
  never_unclean = λ p limit n m h g. never_unclean p limit m n h g;
  timed = timed_shows;
}
