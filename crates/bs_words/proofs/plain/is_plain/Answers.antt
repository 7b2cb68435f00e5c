use Rattle.std.proofs.Common.{map, string_bytes}
use Rattle.bs_words.specs.Plain.{nothing}
use Rattle.bs_words.proofs.Tested.{from_same}
use Rattle.bs_words.proofs.plain.is_plain.Goals as goal

pub loop-word-init : goal.loop-word-init
loop-word-init c = from_same nothing (map string_bytes c.args.words.now)
