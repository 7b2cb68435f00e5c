-- Why a step stops, or doesn't, over every desk.
use Rattle.std.specs.Prelude.{◌≡◌, ◌≤◌, ◌+◌, ◌⊎◌, ℕ, true, false, IsTrue, Option, Some, None, Result, Ok, Err}
use Rattle.bs_desk.specs.Outside.{Outside, Rose}
use Rattle.bs_report.specs.declared.faults.Fault.{Fault}
use Rattle.bs_report.specs.declared.faults.Fault.TheVariants.{BadWords, TooBig}
use Rattle.bs_top.specs.declared.stopped.Stopped.{Stopped}
use Rattle.bs_top.specs.declared.stopped.Stopped.TheVariants.{Refused, NoFile, ReadFault, Memory}
use Rattle.bs_top.specs.Computing.{Computes}
use Rattle.bs_top.specs.Inputs.{file_limit, log_limit}
use Rattle.bs_top.specs.Words.{Asked, predict, trace, chain, sweep, tune, gen, trial}

-- the most bytes that a file of a command may have
abbrev pub most_of : Option Asked → ℕ
most_of (Some (predict name word waves journal)) = log_limit
most_of (Some (trace name word)) = log_limit
most_of (Some (chain name word)) = log_limit
most_of (Some (sweep name words spans)) = log_limit
most_of (Some (tune name word tuning spans)) = log_limit
most_of _ = file_limit

-- a limit of a file of a command whose files have at most so many bytes: that of programs and machines, or this one
abbrev pub IsBound : ℕ → ℕ → Type 0
IsBound most limit = (limit ≡ file_limit) ⊎ (limit ≡ most)

-- the last file that was asked for was found, and no more than the limit was read of it
abbrev pub HasRead : ℕ → Outside → Type 0
HasRead most o = (o.found ≡ true) × (o.taken ≤ most)

abbrev pub FaultCause : ℕ → Outside → Fault → Type 0
FaultCause most new BadWords = ⊥
FaultCause most new (TooBig limit) = (new.found ≡ true) × (new.taken ≡ limit + 1) × IsBound most limit
FaultCause most new _ = HasRead most new

abbrev pub StepCause : {A : Type 0} → ℕ → Outside → Outside → Result A Stopped → Type 0
StepCause most old new (Ok a) = HasRead most new
StepCause most old new (Err (Refused fault)) = FaultCause most new fault
StepCause most old new (Err NoFile) = (new.found ≡ false) × (new.taken ≡ 0)
StepCause most old new (Err ReadFault) = IsTrue old.can_fail × Rose old.read_faults new.read_faults
StepCause most old new (Err Memory) = Unit {0}

-- it is a command, and it reads files
abbrev pub ReadsFiles : Option Asked → Type 0
ReadsFiles None = ⊥
ReadsFiles (Some (gen program)) = ⊥
ReadsFiles (Some (trial program)) = ⊥
ReadsFiles (Some _) = Unit {0}

-- a command that reads no file is refused for what it computes alone, and all is as before; words that are none have no cause
abbrev pub CommandCause : {A : Type 0} → Option Asked → Outside → Outside → Result A Stopped → Type 0
CommandCause None old new r = ⊥
CommandCause (Some (gen program)) old new r = (new ≡ old) × Computes r
CommandCause (Some (trial program)) old new r = (new ≡ old) × Computes r
CommandCause asked old new r = StepCause (most_of asked) old new r

-- the same of a whole command: words that are none are told, and nothing else is
abbrev pub ReplyCause : {A : Type 0} → Option Asked → Outside → Outside → Result A Stopped → Type 0
ReplyCause asked old new (Err (Refused BadWords)) = asked ≡ None
ReplyCause asked old new (Err Memory) = Unit {0}
ReplyCause asked old new r = CommandCause asked old new r
