-- The steps of a command: each gives a value to go on with, or a reason to stop.
use Rattle.std.specs.Prelude.{◌≡◌, ◌⊎◌, ℕ, List, Option, Result, Ok, Err}
use Rattle.bs_top.specs.declared.reply.Ending.{Ending}
use Rattle.bs_top.specs.Targets.{Note, TargetOf}
use Rattle.bs_top.specs.declared.stopped.Stopped.{Stopped}
use Rattle.bs_top.specs.declared.stopped.Stopped.TheVariants.{Refused, NoFile, ReadFault, Memory}

-- what a command says: how it ends, a text with its place, and maybe a note, which is written before it
pub record Said : Type 0 where
  pub ending : Ending
  pub note : Option Note
  pub target : TargetOf
  pub text : List ℕ

-- what a step may give
abbrev pub Step : Type 0 → Type 1
Step A = Result A Stopped → Type 0

-- a step that gives just this
abbrev pub gives : {A : Type 0} → Result A Stopped → Step A
gives wanted result = wanted ≡ result

-- one step, and then another with what the first one gave; a reason to stop stays
abbrev pub and_then : {A B : Type 0} → Step A → (A → Step B) → Step B
and_then {A} first next (Ok b) = (a : A) × first (Ok a) × next a (Ok b)
and_then {A} first next (Err stop) = first (Err stop) ⊎ ((a : A) × first (Ok a) × next a (Err stop))

infixl 10 ◌>>=◌
abbrev pub ◌>>=◌ : {A B : Type 0} → Step A → (A → Step B) → Step B
first >>= next = and_then first next

-- this came of a step, unless reading failed or memory was wanting
abbrev pub Told : {A B : Type 0} → (B → A) → Step A → Result B Stopped → Type 0
Told view step (Ok b) = step (Ok (view b))
Told view step (Err (Refused fault)) = step (Err (Refused fault))
Told view step (Err NoFile) = step (Err NoFile)
Told view step (Err ReadFault) = Unit {0}
Told view step (Err Memory) = Unit {0}
