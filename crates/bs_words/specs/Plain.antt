-- The plain lists of words, and what each word of them is.
use Rattle.std.specs.Prelude.{ℕ, ◌==◌, ◌&&◌, ◌||◌, Bool, true, false, not, List, [], ◌∷◌, ◌++◌, Option, Some, None, is_some, if◌then◌else◌, codes, option_and_then}
use Rattle.std.specs.Str.{bytes_eq}
use Rattle.bs_words.specs.declared.flag.Flag.{Flag}
use Rattle.bs_words.specs.declared.flag.Flag.TheVariants.{Spans}
use Rattle.bs_words.specs.declared.setting.Setting.{Setting}
use Rattle.bs_words.specs.declared.setting.Setting.TheVariants.{Limit, Workers, Waves, Journal}

abbrev pub Text : Type 0
Text = List ℕ

abbrev pub is_empty : {A : Type 0} → List A → Bool
is_empty [] = true
is_empty (x ∷ xs) = false

-- the word begins with a hyphen
abbrev pub is_dashed : Text → Bool
is_dashed [] = false
is_dashed (b ∷ bs) = b == 45

-- the option that a word names
abbrev pub setting_of : Text → Option Setting
setting_of w =
    if bytes_eq w (codes "--limit") then Some Limit
    else (if bytes_eq w (codes "--workers") then Some Workers
    else (if bytes_eq w (codes "--waves") then Some Waves
    else (if bytes_eq w (codes "--journal") then Some Journal else None)))

-- the option without a value that a word names
abbrev pub flag_of : Text → Option Flag
flag_of w = if bytes_eq w (codes "--spans") then Some Spans else None

-- what was read so far
pub record Read : Type 0 where
  pub command : Option Text
  pub names : List Text
  pub limit : Option Text
  pub workers : Option Text
  pub waves : Option Text
  pub journal : Option Text
  pub spans : Bool
  -- the option whose value comes next
  pub waits : Option Setting
  -- an option came after a name
  pub closed : Bool

abbrev pub nothing : Read
nothing = record { command = None; names = []; limit = None; workers = None; waves = None; journal = None; spans = false; waits = None; closed = false }

abbrev pub value_of : Setting → Read → Option Text
value_of Limit r = r.limit
value_of Workers r = r.workers
value_of Waves r = r.waves
value_of Journal r = r.journal

abbrev pub with_value : Setting → Text → Read → Read
with_value Limit v r = record r { limit = Some v; waits = None }
with_value Workers v r = record r { workers = Some v; waits = None }
with_value Waves v r = record r { waves = Some v; waits = None }
with_value Journal v r = record r { journal = Some v; waits = None }

-- an option, which may stand once
abbrev pub begun : Option Setting → Read → Option Read
begun None r = None
begun (Some o) r = if is_some (value_of o r) then None
    else Some (record r { waits = Some o; closed = r.closed || not (is_empty r.names) })

abbrev pub stands : Flag → Read → Bool
stands Spans r = r.spans

abbrev pub with_flag : Flag → Read → Read
with_flag Spans r = record r { spans = true; closed = r.closed || not (is_empty r.names) }

-- an option without a value, which may stand once
abbrev pub flagged : Flag → Read → Option Read
flagged f r = if stands f r then None else Some (with_flag f r)

-- a word that begins with a hyphen
abbrev pub dashed : Option Flag → Text → Read → Option Read
dashed (Some f) w r = flagged f r
dashed None w r = begun (setting_of w) r

-- the command, or a name, which may not stand after an option that stands after a name
abbrev pub named : Option Text → Text → Read → Option Read
named None w r = Some (record r { command = Some w })
named (Some c) w r = if r.closed then None else Some (record r { names = r.names ++ w ∷ [] })

abbrev pub by_waits : Option Setting → Text → Read → Option Read
by_waits (Some o) w r = if is_dashed w then None else Some (with_value o w r)
by_waits None w r = if is_dashed w then dashed (flag_of w) w r else named r.command w r

-- one more word
abbrev pub step : Text → Read → Option Read
step w r = if is_empty w then None else by_waits r.waits w r

-- no option waits for its value, and there is a command
abbrev pub ended : Read → Option Read
ended r = if not (is_some r.waits) && is_some r.command then Some r else None

abbrev pub read_from : Read → List Text → Option Read
read_from r [] = ended r
read_from r (w ∷ ws) = option_and_then (λ next. read_from next ws) (step w r)

-- the reading of a plain list
abbrev pub plain : List Text → Option Read
plain words = read_from nothing words
