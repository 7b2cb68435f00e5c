use Rattle.bs_range.proofs.Rounds.{mail_words, round_declared, round_log_words, round_words}
use Rattle.bs_range.proofs.Spelled.{spelled_small}
use Rattle.bs_range.proofs.laws.rounds_are_words.Goals as goal

pub returns : goal.returns
returns c = record {
  rounds = λ p limit n small. round_words p limit small n;
  mail = λ p limit n small. mail_words p limit small n;
  logs = round_log_words;
  declared = λ text p limit n spells ok. round_declared p limit n (spelled_small text p spells) (λ l k held. c.keys_are_declared.ensures p l k held ok);
}
