-- The outside as a desk tells it, and what each call of a desk does to it.
use Rattle.std.specs.Prelude.{◌≡◌, ◌≤◌, ◌<◌, ◌+◌, ◌-◌, ◌^◌, ℕ, min, Bool, true, false, IsTrue, List, [], ◌++◌, length, take, drop, Option, Some, None, IfSome, option_map, option_and_then, Result, Ok, Err}
use Rattle.std.specs.Cmp.Lexicographic.{slice_cmp}
use Rattle.std.specs.Ordering.{nat_cmp}
use Rattle.std.specs.FinMap as map
use Rattle.bs_desk.specs.declared.desk.Port.{Port}
use Rattle.bs_desk.specs.declared.desk.Port.TheVariants as port
use Rattle.bs_desk.specs.declared.desk.DeskFault.{DeskFault}
use Rattle.bs_desk.specs.declared.desk.DeskFault.TheVariants.{Failed}

-- files: contents by name, both as bytes
abbrev pub Files : Type 0
Files = map.FinMap (slice_cmp nat_cmp) (List ℕ)

-- files and streams, as far as a desk tells them
pub record Outside : Type 0 where
  -- all files, where the desk tells them
  pub files : Option Files
  -- what is left to read of the opened file, where it is told
  pub rest : Option (List ℕ)
  -- the bytes that were written to each port; they grow only where the files are told
  pub out : List ℕ
  pub err : List ℕ
  pub file : List ℕ
  -- a file is opened; a file is created
  pub is_open : Bool
  pub is_created : Bool
  -- the name of the created file, where the files are told
  pub created : Option (List ℕ)
  -- calls may answer `Failed`
  pub can_fail : Bool
  -- what the last `open` that was Ok answered; true before the first
  pub found : Bool
  -- how many bytes were read since that `open`, or 2^64 - 1 where they are more
  pub taken : ℕ
  -- the refusals of `open` and `read`, and those of `create` and `write`
  pub read_faults : ℕ
  pub write_faults : ℕ

-- the last value of a count
abbrev pub most : ℕ
most = 2 ^ 64 - 1

-- the count rose, or it stands at its last value
abbrev pub Rose : ℕ → ℕ → Type 0
Rose before now = min (before + 1) most ≤ now

-- `open` or `read` was refused: all but the count of read faults is as before
pub record ReadRefused (fault : DeskFault) (old new : Outside) : Type 0 where
  pub same : new ≡ record old { read_faults = new.read_faults }
  pub later : old.read_faults ≤ new.read_faults
  pub cause : fault ≡ Failed → IsTrue old.can_fail × Rose old.read_faults new.read_faults

-- `create` or `write` was refused: all but the count of write faults is as before
pub record WriteRefused (fault : DeskFault) (old new : Outside) : Type 0 where
  pub same : new ≡ record old { write_faults = new.write_faults }
  pub later : old.write_faults ≤ new.write_faults
  pub cause : fault ≡ Failed → IsTrue old.can_fail × Rose old.write_faults new.write_faults

-- `open` found the file: where files are told, there is one of that name, and all of it is left
pub record Begins (name : List ℕ) (old new : Outside) : Type 0 where
  pub same : new ≡ record old { rest = new.rest; is_open = true; found = true; taken = 0 }
  pub told : IfSome old.files (λ files. (bytes : List ℕ) × (map.get files name ≡ Some bytes) × (new.rest ≡ Some bytes))

-- `open` found no file: where files are told, there is none of that name
pub record Misses (name : List ℕ) (old new : Outside) : Type 0 where
  pub same : new ≡ record old { found = false; taken = 0 }
  pub told : IfSome old.files (λ files. map.get files name ≡ None)

-- what `open` does
abbrev pub Opens : List ℕ → Outside → Outside → Result Bool DeskFault → Type 0
Opens name old new (Ok true) = Begins name old new
Opens name old new (Ok false) = Misses name old new
Opens name old new (Err fault) = ReadRefused fault old new

-- n bytes went from the front of the rest to the front of the room; none where the rest is empty
pub record Takes (old new : Outside) (room : List ℕ) (n : ℕ) : Type 0 where
  pub fits : n ≤ length room
  pub same : new ≡ record old { rest = option_map (drop n) old.rest; taken = min (old.taken + n) most }
  pub bytes : IfSome old.rest (λ rest. (n ≤ length rest) × (take n room ≡ take n rest) × (n ≡ 0 → 0 < length room → rest ≡ []))

-- what `read` does
abbrev pub Reads : Outside → Outside → List ℕ → Result ℕ DeskFault → Type 0
Reads old new room (Ok n) = Takes old new room n
Reads old new room (Err fault) = ReadRefused fault old new

-- with these contents under that name
abbrev pub with_contents : List ℕ → List ℕ → Outside → Outside
with_contents name bytes o = record o { files = option_map (λ files. map.insert files name bytes) o.files }

-- with an empty file of that name, which is the created one from then on
abbrev pub with_created : List ℕ → Outside → Outside
with_created name o = record (with_contents name [] o) { is_created = true; created = option_map (λ _. name) o.files }

-- what `create` does
abbrev pub Creates : List ℕ → Outside → Outside → Result (Unit {0}) DeskFault → Type 0
Creates name old new (Ok _) = new ≡ with_created name old
Creates name old new (Err fault) = WriteRefused fault old new

-- with bytes behind these contents of the file of that name; a file that isn't there stays away
abbrev pub longer_by : List ℕ → Files → List ℕ → Option (List ℕ) → Files
longer_by bytes files name None = files
longer_by bytes files name (Some had) = map.insert files name (had ++ bytes)

-- with bytes at the end of the created file
abbrev pub extended_by : List ℕ → Option (List ℕ) → Files → Files
extended_by bytes None files = files
extended_by bytes (Some name) files = longer_by bytes files name (map.get files name)

-- bytes behind those that were written before, where the files are told
abbrev pub more_told : Option Files → List ℕ → List ℕ → List ℕ
more_told None had bytes = had
more_told (Some files) had bytes = had ++ bytes

-- with these bytes written to that port
abbrev pub written : Port → List ℕ → Outside → Outside
written port.Out bytes o = record o { out = more_told o.files o.out bytes }
written port.Err bytes o = record o { err = more_told o.files o.err bytes }
written port.File bytes o = record o { file = more_told o.files o.file bytes; files = option_map (extended_by bytes o.created) o.files }

-- a front of n bytes was written
pub record Puts (port : Port) (bytes : List ℕ) (old new : Outside) (n : ℕ) : Type 0 where
  pub fits : n ≤ length bytes
  pub some : 0 < length bytes → 0 < n
  pub same : new ≡ written port (take n bytes) old

-- what `write` does
abbrev pub Writes : Port → List ℕ → Outside → Outside → Result ℕ DeskFault → Type 0
Writes port bytes old new (Ok n) = Puts port bytes old new n
Writes port bytes old new (Err fault) = WriteRefused fault old new

-- the port may be written: for the port of files, one is created
abbrev pub MayWrite : Port → Outside → Type 0
MayWrite port.Out o = Unit {0}
MayWrite port.Err o = Unit {0}
MayWrite port.File o = IsTrue o.is_created

-- all but the opened file and the count of read faults is as before
abbrev pub IsReading : Outside → Outside → Type 0
IsReading old new = new ≡ record old { rest = new.rest; is_open = new.is_open; found = new.found; taken = new.taken; read_faults = new.read_faults }

-- the contents under that name, where files are told and there is such a file
abbrev pub contents_of : List ℕ → Outside → Option (List ℕ)
contents_of name o = option_and_then (λ files. map.get files name) o.files

-- the bytes that were written to that port
abbrev pub bytes_written : Port → Outside → List ℕ
bytes_written port.Out o = o.out
bytes_written port.Err o = o.err
bytes_written port.File o = o.file

-- the outside of a desk that tells no content, before its first call
abbrev pub untold : Outside
untold = record {
  files = None;
  rest = None;
  out = [];
  err = [];
  file = [];
  is_open = false;
  is_created = false;
  created = None;
  can_fail = true;
  found = true;
  taken = 0;
  read_faults = 0;
  write_faults = 0;
}
