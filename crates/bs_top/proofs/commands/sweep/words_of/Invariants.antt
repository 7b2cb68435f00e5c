use Rattle.std.proofs.Common.{◌≡◌, map, take}
use Rattle.bs_words.specs.Machine.{word_of}
use Rattle.bs_top.specs.Words.{words_of}
use Rattle.bs_top.proofs.commands.sweep.words_of.Given as goal

abbrev pub invariant-loop-name : goal.invariant-loop-name
invariant-loop-name l = map word_of l.words.items ≡ words_of (take l.name-index l.names)
