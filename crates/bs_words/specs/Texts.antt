-- The texts of a plain list of words: the command, its names, and its options.
use Rattle.std.specs.Prelude.{Bool, List, map, Option, option_map, option_and_then}
use Rattle.bs_words.specs.Plain.{Text, Read, plain}
use Rattle.bs_words.specs.declared.reading.Reading.{Reading}

pub record Texts : Type 0 where
  pub command : Text
  pub names : List Text
  pub limit : Option Text
  pub workers : Option Text
  pub waves : Option Text
  pub journal : Option Text
  pub spans : Bool

-- the texts of what was read, where there is a command
abbrev pub texts_in : Read → Option Texts
texts_in r = option_map (λ c. record { command = c; names = r.names; limit = r.limit; workers = r.workers; waves = r.waves; journal = r.journal; spans = r.spans }) r.command

-- the texts of a list of words, where it is plain
abbrev pub plain_texts : List Text → Option Texts
plain_texts words = option_and_then texts_in (plain words)

-- the texts that a reading refers to
abbrev pub texts_of : Reading → Texts
texts_of reading = record {
  command = reading.command.now;
  names = map (λ n. n.now) reading.names.items;
  limit = option_map (λ n. n.now) reading.limit;
  workers = option_map (λ n. n.now) reading.workers;
  waves = option_map (λ n. n.now) reading.waves;
  journal = option_map (λ n. n.now) reading.journal;
  spans = reading.spans;
}
