-- A list of words part by part: the four rules of a plain list, each by itself.
use Rattle.std.specs.Prelude.{Bool, true, false, not, ◌&&◌, ◌||◌, List, [], ◌∷◌, Option, Some, None, is_some, option_map, option_and_then, if◌then◌else◌}
use Rattle.bs_words.specs.Plain.{Text, is_empty, is_dashed, setting_of, flag_of}
use Rattle.bs_words.specs.Command.{command_of}
use Rattle.bs_words.specs.Texts.{Texts}
use Rattle.bs_words.specs.declared.command.Command.{Command}
use Rattle.bs_words.specs.declared.flag.Flag.{Flag}
use Rattle.bs_words.specs.declared.flag.Flag.TheVariants.{Spans}
use Rattle.bs_words.specs.declared.setting.Setting.{Setting}
use Rattle.bs_words.specs.declared.setting.Setting.TheVariants.{Limit, Workers, Waves, Journal}

-- an option with its value, an option without one, or another word
pub data Part : Type 0 where
  valued : Setting → Text → Part
  flag : Flag → Part
  bare : Text → Part

abbrev pub is_bare : Text → Bool
is_bare w = not (is_empty w) && not (is_dashed w)

abbrev pub before : Part → Option (List Part) → Option (List Part)
before p ps = option_map (λ qs. p ∷ qs) ps

-- an option without a value, or one with
abbrev pub by_flag : Option Flag → Option (List Part) → Option (List Part) → Option (List Part)
by_flag (Some f) after other = before (flag f) after
by_flag None after other = other

-- No word is empty. Each word that begins with a hyphen is an option, and if it has a value, a word that does not begin with one follows as that.
abbrev mutual
  pub parts : List Text → Option (List Part)
  parts [] = Some []
  parts (w ∷ ws) = if is_dashed w then by_flag (flag_of w) (parts ws) (with_value (setting_of w) ws) else (if is_empty w then None else before (bare w) (parts ws))

  pub with_value : Option Setting → List Text → Option (List Part)
  with_value o [] = None
  with_value None (v ∷ ws) = None
  with_value (Some o) (v ∷ ws) = if is_bare v then before (valued o v) (parts ws) else None

abbrev pub same : Setting → Setting → Bool
same Limit Limit = true
same Workers Workers = true
same Waves Waves = true
same Journal Journal = true
same _ _ = false

-- the value of an option
abbrev pub value_in : Setting → List Part → Option Text
value_in o [] = None
value_in o (valued q v ∷ ps) = if same o q then Some v else value_in o ps
value_in o (flag f ∷ ps) = value_in o ps
value_in o (bare w ∷ ps) = value_in o ps

abbrev pub same_flag : Flag → Flag → Bool
same_flag Spans Spans = true

-- whether an option without a value stands
abbrev pub stands_in : Flag → List Part → Bool
stands_in f [] = false
stands_in f (valued q v ∷ ps) = stands_in f ps
stands_in f (flag g ∷ ps) = same_flag f g || stands_in f ps
stands_in f (bare w ∷ ps) = stands_in f ps

-- each option stands at most once
abbrev pub is_once : List Part → Bool
is_once [] = true
is_once (valued o v ∷ ps) = not (is_some (value_in o ps)) && is_once ps
is_once (flag f ∷ ps) = not (stands_in f ps) && is_once ps
is_once (bare w ∷ ps) = is_once ps

-- the words that are neither an option nor a value
abbrev pub bares : List Part → List Text
bares [] = []
bares (valued o v ∷ ps) = bares ps
bares (flag f ∷ ps) = bares ps
bares (bare w ∷ ps) = w ∷ bares ps

-- no option stands between two names: an option after a name has no name after it
abbrev pub after_name : List Part → Bool
after_name [] = true
after_name (valued o v ∷ ps) = is_empty (bares ps)
after_name (flag f ∷ ps) = is_empty (bares ps)
after_name (bare w ∷ ps) = after_name ps

abbrev pub after_command : List Part → Bool
after_command [] = true
after_command (valued o v ∷ ps) = after_command ps
after_command (flag f ∷ ps) = after_command ps
after_command (bare w ∷ ps) = after_name ps

abbrev pub is_together : List Part → Bool
is_together [] = true
is_together (valued o v ∷ ps) = is_together ps
is_together (flag f ∷ ps) = is_together ps
is_together (bare w ∷ ps) = after_command ps

-- the first of those words is the command, and the others are the names
abbrev pub texts_by : List Text → List Part → Option Texts
texts_by [] ps = None
texts_by (c ∷ names) ps = Some (record {
  command = c;
  names = names;
  limit = value_in Limit ps;
  workers = value_in Workers ps;
  waves = value_in Waves ps;
  journal = value_in Journal ps;
  spans = stands_in Spans ps;
})

abbrev pub texts_of_parts : List Part → Option Texts
texts_of_parts ps = if is_once ps && is_together ps then texts_by (bares ps) ps else None

-- the reading of a plain list, and nothing of any other
abbrev pub reading : List Text → Option Texts
reading words = option_and_then texts_of_parts (parts words)

-- the command that words are, or nothing
abbrev pub command_in : List Text → Option Command
command_in words = option_and_then command_of (reading words)
