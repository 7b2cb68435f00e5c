-- What the words of a command line ask for, as far as it is built (docs/output.md).
use Rattle.std.specs.Prelude.{ℕ, Bool, ◌≤◌, ◌^◌, List, [], ◌∷◌, Option, Some, None, IfSome, option_map, option_and_then}
use Rattle.bs_words.specs.Parts.{command_in}
use Rattle.bs_words.specs.Generated.{asked_program}
use Rattle.bs_words.specs.Machine.{MachineWord, machine_word}
use Rattle.bs_words.specs.Tuning.{asked_tuning}
use Rattle.bs_words.specs.declared.generated.Generated.{Generated}
use Rattle.bs_words.specs.declared.command.Command.{Command}
use Rattle.bs_words.specs.declared.tuning.Tuning.{Tuning}
use Rattle.bs_words.specs.declared.verb.Verb.{Verb}
use Rattle.bs_words.specs.declared.verb.Verb.TheVariants.{Check, Model, Emulate, Predict, Run, Trace, Chain, Sweep, Tune, Gen, Trial}

-- a limit of sizes is from 1 to 262,144
abbrev pub IsLimit : ℕ → Type 0
IsLimit limit = (1 ≤ limit) × (limit ≤ 262144)

-- a number of waves is from 1 to 2^40; there may be none
abbrev pub AreWaves : Option ℕ → Type 0
AreWaves waves = IfSome waves (λ n. (1 ≤ n) × (n ≤ 2 ^ 40))

-- a command that is built, with the name of the file of its program or its log, and what else it has: a machine or several,
-- the name of the log's file, the limit of sizes, the number of waves, the name of the journal's file, a tuning, whether only
-- spans are wanted; or with a program to generate
pub data Asked : Type 0 where
  check : List ℕ → Asked
  model : List ℕ → MachineWord → ℕ → Asked
  emulate : List ℕ → List ℕ → ℕ → Asked
  run : List ℕ → MachineWord → ℕ → Option ℕ → Asked
  predict : List ℕ → MachineWord → Option ℕ → Option (List ℕ) → Asked
  trace : List ℕ → MachineWord → Asked
  chain : List ℕ → MachineWord → Asked
  sweep : List ℕ → List MachineWord → Bool → Asked
  tune : List ℕ → MachineWord → Tuning → Bool → Asked
  gen : Generated → Asked
  trial : Generated → Asked

-- words of machines behind others
abbrev pub with_word : Option MachineWord → List MachineWord → List MachineWord
with_word (Some word) words = word ∷ words
with_word None words = words

-- the words of machines among names; which names are such words is known of the words
abbrev pub words_of : List (List ℕ) → List MachineWord
words_of [] = []
words_of (name ∷ names) = with_word (machine_word name) (words_of names)

-- a command with its limit of sizes, its waves, its journal and whether only spans are wanted; which of them it may have is
-- known of its words
abbrev pub asked_with : ℕ → Option ℕ → Option (List ℕ) → Bool → Verb → List (List ℕ) → Option Asked
asked_with limit waves journal spans Check (program ∷ []) = Some (check program)
asked_with limit waves journal spans Model (program ∷ machine ∷ []) = option_map (λ m. model program m limit) (machine_word machine)
asked_with limit waves journal spans Emulate (program ∷ log ∷ []) = Some (emulate program log limit)
asked_with limit waves journal spans Run (program ∷ machine ∷ []) = option_map (λ m. run program m limit waves) (machine_word machine)
asked_with limit waves journal spans Predict (log ∷ machine ∷ []) = option_map (λ m. predict log m waves journal) (machine_word machine)
asked_with limit waves journal spans Trace (log ∷ machine ∷ []) = option_map (trace log) (machine_word machine)
asked_with limit waves journal spans Chain (log ∷ machine ∷ []) = option_map (chain log) (machine_word machine)
asked_with limit waves journal spans Sweep (log ∷ machine ∷ machines) = option_map (λ m. sweep log (m ∷ words_of machines) spans) (machine_word machine)
asked_with limit waves journal spans Tune (log ∷ machine ∷ stmt ∷ num ∷ den ∷ []) = option_and_then (λ m. option_map (λ tuning. tune log m tuning spans) (asked_tuning stmt num den)) (machine_word machine)
asked_with limit waves journal spans Gen (kind ∷ chares ∷ seed ∷ []) = option_map gen (asked_program kind chares seed)
asked_with limit waves journal spans Trial (kind ∷ chares ∷ seed ∷ []) = option_map trial (asked_program kind chares seed)
asked_with _ _ _ _ _ _ = None

-- what is asked for, where the command is built; the number of workers changes nothing
abbrev pub built : Command → Option Asked
built command = asked_with command.limit command.waves command.journal command.spans command.verb command.names

abbrev pub asked_by : List (List ℕ) → Option Asked
asked_by words = option_and_then built (command_in words)
