use Rattle.std.proofs.Common.{◌≡◌, drop}
use Rattle.std.specs.List.{list_all}
use Rattle.bs_logtext.specs.Words.{awaits_word}
use Rattle.bs_logtext.proofs.words.waits_are_words.Given as goal

abbrev pub invariant-loop-wait : goal.invariant-loop-wait
invariant-loop-wait l = list_all awaits_word (drop l.wait-index l.waits) ≡ list_all awaits_word l.waits
