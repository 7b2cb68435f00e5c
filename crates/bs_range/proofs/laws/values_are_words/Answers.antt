use Rattle.bs_range.proofs.Rounds.{one_history_words}
use Rattle.bs_range.proofs.laws.values_are_words.Goals as goal

pub returns : goal.returns
returns c = one_history_words
