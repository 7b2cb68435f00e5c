use Rattle.std.proofs.Common.{◌≡◌, drop}
use Rattle.std.specs.List.{list_all}
use Rattle.bs_log.specs.ValidTest.{is_word}
use Rattle.bs_logtext.proofs.words.are_words.Given as goal

abbrev pub invariant-loop-value : goal.invariant-loop-value
invariant-loop-value l = list_all is_word (drop l.value-index l.values) ≡ list_all is_word l.values
