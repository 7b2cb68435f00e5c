-- A whole file is read, and a whole text is written, over any desk.
use Rattle.std.specs.Prelude.{◌≡◌, ◌≤◌, ◌<◌, ◌+◌, ℕ, min, true, IsTrue, List, [], ◌++◌, length, take, drop, Some, IfSome, option_map, Result, Ok, Err, ◌⊎◌}
use Rattle.std.specs.declared.vec.Vec.{Vec}
use Rattle.std.specs.declared.alloc.Global.{Global}
use Rattle.std.specs.FinMap as map
use Rattle.bs_desk.specs.declared.desk.Port.{Port}
use Rattle.bs_desk.specs.declared.desk.DeskFault.{DeskFault}
use Rattle.bs_desk.specs.declared.desk.DeskFault.TheVariants as desk
use Rattle.bs_desk.specs.declared.whole.ReadAllFault.{ReadAllFault}
use Rattle.bs_desk.specs.declared.whole.ReadAllFault.TheVariants as fault
use Rattle.bs_desk.specs.Outside.{Outside, Rose, Misses, IsReading, written, most}

-- these are all bytes of the file, no more than the limit, and nothing of it is left
pub record IsWhole (name : List ℕ) (limit : ℕ) (old new : Outside) (bytes : List ℕ) : Type 0 where
  pub found : new.found ≡ true
  pub within : length bytes ≤ limit
  pub taken : new.taken ≡ min (length bytes) most
  pub faults : new.read_faults ≡ old.read_faults
  pub told : IfSome old.files (λ files. (map.get files name ≡ Some bytes) × (new.rest ≡ Some []))

-- one byte more than the limit was read, so the file is longer than the limit
pub record IsTooBig (name : List ℕ) (limit said : ℕ) (old new : Outside) : Type 0 where
  pub found : new.found ≡ true
  pub given : said ≡ limit
  pub taken : new.taken ≡ limit + 1
  pub faults : new.read_faults ≡ old.read_faults
  pub told : IfSome old.files (λ files. (bytes : List ℕ) × (map.get files name ≡ Some bytes) × (limit < length bytes))

-- `open` was refused, and nothing changed but its count; or it found the file, of which this many bytes were read at most
abbrev pub IsPartlyRead : ℕ → Outside → Outside → Type 0
IsPartlyRead limit old new = (new ≡ record old { read_faults = new.read_faults }) ⊎ ((new.found ≡ true) × (new.taken ≤ limit))

-- a call of the desk failed before more than the limit was read
pub record IsFailed (limit : ℕ) (old new : Outside) : Type 0 where
  pub can_fail : IsTrue old.can_fail
  pub rose : Rose old.read_faults new.read_faults
  pub stopped : IsPartlyRead limit old new

-- by the answer of `read_all`: the whole file, or the refusal's cause
abbrev pub Answers : List ℕ → ℕ → Outside → Outside → Result (Vec ℕ Global) ReadAllFault → Type 0
Answers name limit old new (Ok bytes) = IsWhole name limit old new bytes.items
Answers name limit old new (Err fault.Failed) = IsFailed limit old new
Answers name limit old new (Err fault.Missing) = Misses name old new
Answers name limit old new (Err (fault.TooBig said)) = IsTooBig name limit said old new
Answers name limit old new (Err fault.Memory) = IsPartlyRead (limit + 1) old new

-- a front of n bytes was written, which isn't all, and then the desk refused
pub record IsCut (port : Port) (bytes : List ℕ) (fault : DeskFault) (old new : Outside) (n : ℕ) : Type 0 where
  pub fits : n < length bytes
  pub same : new ≡ record (written port (take n bytes) old) { write_faults = new.write_faults }
  pub later : old.write_faults ≤ new.write_faults
  pub cause : fault ≡ desk.Failed → IsTrue old.can_fail × Rose old.write_faults new.write_faults

-- by the answer of `write_all`: all bytes are written, or a front of them
abbrev pub WritesAll : Port → List ℕ → Outside → Outside → Result (Unit {0}) DeskFault → Type 0
WritesAll port bytes old new (Ok _) = new ≡ written port bytes old
WritesAll port bytes old new (Err fault) = (n : ℕ) × IsCut port bytes fault old new n

-- the refusal of `read_all` for a desk's refusal
abbrev pub passed_on : DeskFault → ReadAllFault
passed_on desk.Failed = fault.Failed
passed_on desk.Memory = fault.Memory

-- a piece of n bytes came behind those that were read before; none at the end of the file
pub record IsPiece (room : ℕ) (old new : Outside) (before after : List ℕ) (n : ℕ) : Type 0 where
  pub fits : n ≤ room
  pub bytes : (piece : List ℕ) × (after ≡ before ++ piece) × (length piece ≡ n) × IfSome old.rest (λ rest. (n ≤ length rest) × (piece ≡ take n rest) × (n ≡ 0 → rest ≡ []))
  pub same : new ≡ record old { rest = option_map (drop n) old.rest; taken = min (old.taken + n) most }

-- the desk refused, and no byte was taken
pub record IsReadFailed (old new : Outside) : Type 0 where
  pub same : new ≡ record old { read_faults = new.read_faults }
  pub can_fail : IsTrue old.can_fail
  pub rose : Rose old.read_faults new.read_faults

-- memory was wanting, in the desk or for what it read
pub record IsShort (room : ℕ) (old new : Outside) : Type 0 where
  pub same : IsReading old new
  pub found : new.found ≡ old.found
  pub taken : new.taken ≤ old.taken + room

-- by the answer for one piece
abbrev pub Pieces : ℕ → Outside → Outside → List ℕ → List ℕ → Result ℕ ReadAllFault → Type 0
Pieces room old new before after (Ok n) = IsPiece room old new before after n
Pieces room old new before after (Err fault.Failed) = IsReadFailed old new
Pieces room old new before after (Err fault.Missing) = ⊥
Pieces room old new before after (Err (fault.TooBig limit)) = ⊥
Pieces room old new before after (Err fault.Memory) = IsShort room old new
