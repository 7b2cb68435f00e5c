-- What performing a command does to the outside (docs/promises.md).
use Rattle.std.specs.Prelude.{◌≡◌, ◌≤◌, ◌<◌, ◌+◌, ◌⊎◌, ℕ, true, false, IsTrue, List, length, take, Option, Some, None, IsSome, Result, Ok, Err}
use Rattle.bs_desk.specs.declared.desk.DeskFault.{DeskFault}
use Rattle.bs_desk.specs.declared.desk.DeskFault.TheVariants as desk
use Rattle.bs_desk.specs.Outside.{Outside, Files, Rose}
use Rattle.bs_report.specs.declared.faults.Fault.{Fault}
use Rattle.bs_report.specs.Fault.{fault_text}
use Rattle.bs_top.specs.declared.status.Status.{Status}
use Rattle.bs_top.specs.declared.status.Status.TheVariants as status
use Rattle.bs_top.specs.Words.{Asked, gen, trial}
use Rattle.bs_top.specs.Targets.{Note, TargetOf, errors, in_file, noted, put}
use Rattle.bs_top.specs.Answer.{Answer, IsAnswer, refused_by}
use Rattle.bs_top.specs.Causes.{HasRead, IsBound, ReadsFiles, most_of}

-- why a call that writes was refused: the desk can fail and its count of write faults rose, or memory was wanting; and the
-- count didn't fall
abbrev pub WriteCause : DeskFault → Outside → Outside → Type 0
WriteCause fault old new = (old.write_faults ≤ new.write_faults) × (fault ≡ desk.Failed → IsTrue old.can_fail × Rose old.write_faults new.write_faults)

-- the counts of faults don't fall
abbrev pub NeverFall : Outside → Outside → Type 0
NeverFall old new = (old.read_faults ≤ new.read_faults) × (old.write_faults ≤ new.write_faults)

-- all is as it should be, but for the count of write faults
abbrev pub IsBut : Outside → Outside → Type 0
IsBut wanted new = new ≡ record wanted { write_faults = new.write_faults }

-- A text was cut off. In all this `As wanted new` says how what is outside is as wanted.
module _ (As : Outside → Outside → Type 0) where
  -- a front of the text is at its place, and not all of it
  pub record IsFront (place : TargetOf) (text : List ℕ) (old new : Outside) : Type 0 where
    pub count : ℕ
    pub within : count < length text
    pub is_put : As (put place (take count text) old) new

  -- the text is for a file, and that file wasn't made: all is as before
  abbrev pub IsNotMade : TargetOf → Outside → Outside → Type 0
  IsNotMade (in_file name) old new = As old new
  IsNotMade _ old new = ⊥

  abbrev pub IsCut : TargetOf → List ℕ → Outside → Outside → Type 0
  IsCut place text old new = IsFront place text old new ⊎ IsNotMade place old new

  -- a note was cut off
  abbrev pub IsCutNote : Option Note → Outside → Outside → Type 0
  IsCutNote None old new = ⊥
  IsCutNote (Some note) old new = IsCut (in_file note.name) note.text old new

  -- the note was cut off, or the text behind it
  abbrev pub AreCut : Option Note → TargetOf → List ℕ → Outside → Outside → Type 0
  AreCut note place text old new = IsCutNote note old new ⊎ IsCut place text (noted note old) new

-- the text is at its place, or a front of it and the desk refused the rest, or its file couldn't be made
abbrev pub Puts : TargetOf → List ℕ → Outside → Outside → Result (Unit {0}) DeskFault → Type 0
Puts place text old new (Ok _) = new ≡ put place text old
Puts place text old new (Err fault) = WriteCause fault old new × IsCut IsBut place text old new

-- the same of a note and a text behind it
abbrev pub Tells : Option Note → TargetOf → List ℕ → Outside → Outside → Result (Unit {0}) DeskFault → Type 0
Tells note place text old new (Ok _) = new ≡ put place text (noted note old)
Tells note place text old new (Err fault) = WriteCause fault old new × AreCut IsBut note place text old new

-- the status of texts that are written whole, or of what refused them
abbrev pub written_status : Status → Result (Unit {0}) DeskFault → Status
written_status wanted (Ok _) = wanted
written_status wanted (Err desk.Failed) = status.WriteFault
written_status wanted (Err desk.Memory) = status.Memory

-- the line of a refusal is at its place, or a front of it; or memory was wanting for the line
abbrev pub Refuses : Fault → Outside → Outside → Status → Type 0
Refuses f old new s =
    ((s ≡ status.Memory) × (new ≡ old))
    ⊎ ((result : Result (Unit {0}) DeskFault) × Puts errors (fault_text f) old new result × (s ≡ written_status (refused_by f) result))

-- all but what reading and refusals change
abbrev pub Keeps : Outside → Outside → Type 0
Keeps old new = new ≡ record old { rest = new.rest; is_open = new.is_open; found = new.found; taken = new.taken; read_faults = new.read_faults; write_faults = new.write_faults }

-- nothing was read
pub record ReadsNothing (old new : Outside) : Type 0 where
  pub found : new.found ≡ old.found
  pub taken : new.taken ≡ old.taken
  pub read_faults : new.read_faults ≡ old.read_faults

-- all that the command reads was read: the last file that was asked for was found, and no more than the limit was read of it;
-- and a command that reads no file read nothing
abbrev pub HasReadAll : Option Asked → Outside → Outside → Type 0
HasReadAll (Some (gen program)) old new = ReadsNothing old new
HasReadAll (Some (trial program)) old new = ReadsNothing old new
HasReadAll asked old new = HasRead (most_of asked) new

pub record ReadsWhole (asked : Option Asked) (old new : Outside) : Type 0 where
  pub command : IsSome asked
  pub read : HasReadAll asked old new

-- more than the limit of a file of the command was read
pub record ReadsTooMuch (asked : Option Asked) (new : Outside) : Type 0 where
  pub command : ReadsFiles asked
  pub found : new.found ≡ true
  pub limit : ℕ
  pub is_limit : IsBound (most_of asked) limit
  pub taken : new.taken ≡ limit + 1

-- `open` answered false
pub record FindsNoFile (asked : Option Asked) (new : Outside) : Type 0 where
  pub command : ReadsFiles asked
  pub found : new.found ≡ false
  pub taken : new.taken ≡ 0

-- a call that reads was refused: the count of read faults rose
pub record FailsToRead (asked : Option Asked) (old new : Outside) : Type 0 where
  pub command : ReadsFiles asked
  pub can_fail : IsTrue old.can_fail
  pub rose : Rose old.read_faults new.read_faults

-- a call that writes was refused: the count of write faults rose
pub record FailsToWrite (old new : Outside) : Type 0 where
  pub can_fail : IsTrue old.can_fail
  pub rose : Rose old.write_faults new.write_faults

-- why a status comes, over every desk
abbrev pub Cause : Option Asked → Outside → Outside → Status → Type 0
Cause asked old new status.Settled = ReadsWhole asked old new
Cause asked old new status.Deadlock = ReadsWhole asked old new
Cause asked old new status.Trapped = ReadsWhole asked old new
Cause asked old new status.BadWords = asked ≡ None
Cause asked old new status.BadProgram = ReadsWhole asked old new
Cause asked old new status.CheckFailed = ReadsWhole asked old new
Cause asked old new status.BadMachine = ReadsWhole asked old new
Cause asked old new status.BadLog = ReadsWhole asked old new
Cause asked old new status.AmbiguousMatch = ReadsWhole asked old new
Cause asked old new status.TooLong = ReadsWhole asked old new
Cause asked old new status.BudgetSpent = ReadsWhole asked old new
Cause asked old new status.TooBig = ReadsTooMuch asked new
Cause asked old new status.ReadFault = FailsToRead asked old new
Cause asked old new status.WriteFault = FailsToWrite old new
Cause asked old new status.NoFile = FindsNoFile asked new
Cause asked old new status.Memory = Unit {0}

-- a front of what is to be written
abbrev pub WritesFront : Answer → Outside → Outside → Type 0
WritesFront a old new = AreCut Keeps a.note a.target a.text old new

-- the answer's status, and its whole texts
pub record WritesAnswer (a : Answer) (s : Status) (old new : Outside) : Type 0 where
  pub status : s ≡ a.status
  pub kept : Keeps (put a.target a.text (noted a.note old)) new

abbrev pub Answers : Files → Option Asked → Outside → Outside → Status → Type 0
Answers files asked old new status.ReadFault = Keeps old new
Answers files asked old new status.WriteFault = (a : Answer) × IsAnswer files asked a × WritesFront a old new
Answers files asked old new status.Memory = Keeps old new ⊎ ((a : Answer) × IsAnswer files asked a × WritesFront a old new)
Answers files asked old new s = (a : Answer) × IsAnswer files asked a × WritesAnswer a s old new
