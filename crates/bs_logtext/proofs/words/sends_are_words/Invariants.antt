use Rattle.std.proofs.Common.{◌≡◌, drop}
use Rattle.std.specs.List.{list_all}
use Rattle.bs_logtext.specs.Words.{sends_word}
use Rattle.bs_logtext.proofs.words.sends_are_words.Given as goal

abbrev pub invariant-loop-sent : goal.invariant-loop-sent
invariant-loop-sent l = list_all sends_word (drop l.sent-index l.sends) ≡ list_all sends_word l.sends
