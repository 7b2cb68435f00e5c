use Rattle.std.proofs.Common.{◌≡◌, is_some, map, string_bytes, drop}
use Rattle.bs_words.specs.Plain.{plain}
use Rattle.bs_words.specs.Seen.{seen_from}
use Rattle.bs_words.proofs.plain.is_plain.Given as goal

abbrev pub invariant-loop-word : goal.invariant-loop-word
invariant-loop-word l = seen_from l.seen (map string_bytes (drop l.word-index l.words)) ≡ is_some (plain (map string_bytes l.fn.words))
