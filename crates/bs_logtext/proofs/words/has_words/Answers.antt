use Rattle.std.proofs.Common.{◌≡◌, true, rules}
use Rattle.std.specs.List.{list_all}
use Rattle.bs_logtext.specs.Words.{holds_words, awaits_word}
use Rattle.bs_logtext.proofs.InWords.{has_words}
use Rattle.bs_logtext.proofs.words.has_words.Goals as goal

pub returns : goal.returns
returns c =
    let rows : list_all holds_words c.args.log.now.rows ≡ true = search rules in
    let waits : list_all awaits_word c.args.log.now.waits ≡ true = search rules in
    has_words c.args.log.now rows waits
