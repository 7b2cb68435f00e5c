-- Which machine a word names.
use Rattle.std.specs.Prelude.{ℕ, ◌==◌, ◌+◌, ◌^◌, nat_lt, not, length, take, drop, take_while, Option, Some, None, if◌then◌else◌, codes}
use Rattle.std.specs.Str.{bytes_eq}
use Rattle.bs_words.specs.Numbers.{number_from}
use Rattle.bs_words.specs.Plain.{Text}
use Rattle.bs_words.specs.declared.machine.MachineWord.{MachineWord as Word}
use Rattle.bs_words.specs.declared.machine.MachineWord.TheVariants as word

-- a machine: its processors and its latency, or the name of its file
pub data MachineWord : Type 0 where
  flat : ℕ → ℕ → MachineWord
  file : Text → MachineWord

abbrev pub word_of : Word → MachineWord
word_of (word.Flat processors latency) = flat processors latency
word_of (word.File name) = file name.now

-- the colon is byte 58
abbrev pub before_colon : Text → ℕ
before_colon text = length (take_while (λ byte. not (byte == 58)) text)

abbrev pub flat_with : Option ℕ → Option ℕ → Option MachineWord
flat_with (Some processors) (Some latency) = Some (flat processors latency)
flat_with (Some processors) None = None
flat_with None latency = None

-- `P:L`, a number of processors and a latency
abbrev pub flat_numbers : Text → Option MachineWord
flat_numbers text =
    if nat_lt (before_colon text) (length text)
    then flat_with (number_from 1 65536 (take (before_colon text) text)) (number_from 1 (2 ^ 38) (drop (before_colon text + 1) text))
    else None

-- `flat:P:L`, or the name of a file
abbrev pub machine_word : Text → Option MachineWord
machine_word word = if bytes_eq (take 5 word) (codes "flat:") then flat_numbers (drop 5 word) else Some (file word)
