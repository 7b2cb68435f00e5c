-- The command that the texts of a plain list are.
use Rattle.std.specs.Prelude.{ℕ, ◌==◌, ◌^◌, Bool, true, not, ◌&&◌, ◌||◌, List, [], ◌∷◌, Option, Some, None, is_some, option_map, option_and_then, if◌then◌else◌}
use Rattle.bs_words.specs.Plain.{Text}
use Rattle.bs_words.specs.Numbers.{number_from}
use Rattle.bs_words.specs.Roles.{are_in_roles}
use Rattle.bs_words.specs.Texts.{Texts}
use Rattle.bs_words.specs.Tuning.{is_tuning}
use Rattle.bs_words.specs.Verbs.{verb_of, roles_of, more_of, has, has_flag}
use Rattle.bs_words.specs.declared.command.Command.{Command}
use Rattle.bs_words.specs.declared.command.Numbers.{Numbers}
use Rattle.bs_words.specs.declared.flag.Flag.{Flag}
use Rattle.bs_words.specs.declared.flag.Flag.TheVariants.{Spans}
use Rattle.bs_words.specs.declared.setting.Setting.{Setting}
use Rattle.bs_words.specs.declared.setting.Setting.TheVariants.{Limit, Workers, Waves, Journal}
use Rattle.bs_words.specs.declared.verb.Verb.{Verb}
use Rattle.bs_words.specs.declared.verb.Verb.TheVariants.{Tune}

infixl 10 ◌>>=◌
abbrev ◌>>=◌ : {A B : Type 0} → Option A → (A → Option B) → Option B
given >>= next = option_and_then next given

-- an option stands only with a command that has it
abbrev pub may_stand : Verb → Setting → Option Text → Bool
may_stand verb setting value = has verb setting || not (is_some value)

-- and so it is with one that has no value
abbrev pub flag_may_stand : Verb → Flag → Bool → Bool
flag_may_stand verb flag stands = has_flag verb flag || not stands

abbrev pub settings_fit : Verb → Texts → Bool
settings_fit verb texts =
    may_stand verb Limit texts.limit && may_stand verb Workers texts.workers && may_stand verb Waves texts.waves && may_stand verb Journal texts.journal
    && flag_may_stand verb Spans texts.spans

-- the fraction of `tune` is at most 1
abbrev pub are_together : Verb → List Text → Bool
are_together Tune (log ∷ machine ∷ stmt ∷ num ∷ den ∷ []) = is_tuning stmt num den
are_together _ _ = true

-- the names are as many as the command has, each may stand where it does, and they may stand together
abbrev pub names_fit : Verb → List Text → Bool
names_fit verb names = are_in_roles (roles_of verb) (more_of verb) names && are_together verb names

-- the number that an option gives, or what stands for it
abbrev pub number_or : ℕ → ℕ → ℕ → Option Text → Option ℕ
number_or default low high None = Some default
number_or default low high (Some text) = number_from low high text

-- the number that an option gives, where it stands
abbrev pub number_if : ℕ → ℕ → Option Text → Option (Option ℕ)
number_if low high None = Some None
number_if low high (Some text) = option_map (λ n. Some n) (number_from low high text)

-- the ranges of the options; a journal is written by one worker
abbrev pub numbers_of : Texts → Option Numbers
numbers_of texts = do
  limit ← number_or 262144 1 262144 texts.limit
  workers ← number_or 1 1 64 texts.workers
  waves ← number_if 1 (2 ^ 40) texts.waves
  if is_some texts.journal && not (workers == 1) then None else Some (record { limit = limit; workers = workers; waves = waves })

abbrev pub command_of : Texts → Option Command
command_of texts = do
  verb ← verb_of texts.command
  if names_fit verb texts.names && settings_fit verb texts
      then (do
        numbers ← numbers_of texts
        Some (record {
          verb = verb;
          names = texts.names;
          limit = numbers.limit;
          workers = numbers.workers;
          waves = numbers.waves;
          journal = texts.journal;
          spans = texts.spans;
        }))
      else None
