use Rattle.bs_range.proofs.Rounds.{clean_valid, closed_valid}
use Rattle.bs_range.proofs.laws.clean_logs_are_valid.Goals as goal

pub returns : goal.returns
returns c = record {
  closed = λ text p limit hs few spells ok. closed_valid c.logs_are_valid.ensures text p limit few spells ok (λ l k held. c.keys_are_declared.ensures p l k held ok) hs;
  verdict = λ text p limit hs few spells ok. clean_valid c.logs_are_valid.ensures text p limit few spells ok (λ l k held. c.keys_are_declared.ensures p l k held ok) hs;
}
