-- The commands, with the names and the options that each of them has.
use Rattle.std.specs.Prelude.{ℕ, Bool, true, false, List, [], ◌∷◌, Option, Some, None, codes, if◌then◌else◌}
use Rattle.std.specs.Str.{bytes_eq}
use Rattle.bs_words.specs.Plain.{Text}
use Rattle.bs_words.specs.declared.flag.Flag.{Flag}
use Rattle.bs_words.specs.declared.flag.Flag.TheVariants.{Spans}
use Rattle.bs_words.specs.declared.roles.Role.{Role}
use Rattle.bs_words.specs.declared.roles.Role.TheVariants as role
use Rattle.bs_words.specs.declared.setting.Setting.{Setting}
use Rattle.bs_words.specs.declared.setting.Setting.TheVariants.{Limit, Workers, Waves, Journal}
use Rattle.bs_words.specs.declared.verb.Verb.{Verb}
use Rattle.bs_words.specs.declared.verb.Verb.TheVariants.{Check, Model, Emulate, Predict, Run, Trace, Chain, Gen, Trial, Sweep, Tune}

abbrev pub verb_of : Text → Option Verb
verb_of word =
    if bytes_eq word (codes "check") then Some Check
    else (if bytes_eq word (codes "model") then Some Model
    else (if bytes_eq word (codes "emulate") then Some Emulate
    else (if bytes_eq word (codes "predict") then Some Predict
    else (if bytes_eq word (codes "run") then Some Run
    else (if bytes_eq word (codes "trace") then Some Trace
    else (if bytes_eq word (codes "chain") then Some Chain
    else (if bytes_eq word (codes "gen") then Some Gen
    else (if bytes_eq word (codes "trial") then Some Trial
    else (if bytes_eq word (codes "sweep") then Some Sweep
    else (if bytes_eq word (codes "tune") then Some Tune else None))))))))))

-- what each name of a command stands for
abbrev pub roles_of : Verb → List Role
roles_of Check = role.File ∷ []
roles_of Model = role.File ∷ role.Machine ∷ []
roles_of Emulate = role.File ∷ role.File ∷ []
roles_of Predict = role.File ∷ role.Machine ∷ []
roles_of Run = role.File ∷ role.Machine ∷ []
roles_of Trace = role.File ∷ role.Machine ∷ []
roles_of Chain = role.File ∷ role.Machine ∷ []
roles_of Gen = role.Workload ∷ role.Size ∷ role.Seed ∷ []
roles_of Trial = role.Workload ∷ role.Size ∷ role.Seed ∷ []
roles_of Sweep = role.File ∷ role.Machine ∷ []
roles_of Tune = role.File ∷ role.Machine ∷ role.Statement ∷ role.Term ∷ role.Term ∷ []

-- how many machines may stand behind those names
abbrev pub more_of : Verb → ℕ
more_of Sweep = 31
more_of _ = 0

-- the options of a command
abbrev pub has : Verb → Setting → Bool
has Model Limit = true
has Emulate Limit = true
has Emulate Workers = true
has Predict Workers = true
has Predict Waves = true
has Predict Journal = true
has Run Limit = true
has Run Workers = true
has Run Waves = true
has Chain Workers = true
has Trial Workers = true
has _ _ = false

-- the options without a value
abbrev pub has_flag : Verb → Flag → Bool
has_flag Sweep Spans = true
has_flag Tune Spans = true
has_flag _ _ = false
