use Rattle.std.proofs.Common.{◌≡◌, drop}
use Rattle.std.specs.List.{list_all}
use Rattle.bs_logtext.specs.Words.{holds_words}
use Rattle.bs_logtext.proofs.words.rows_hold_words.Given as goal

abbrev pub invariant-loop-row : goal.invariant-loop-row
invariant-loop-row l = list_all holds_words (drop l.row-index l.rows) ≡ list_all holds_words l.rows
