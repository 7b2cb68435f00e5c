-- What the fields of a desk in memory mean, and what is always true of them.
use Rattle.std.specs.Prelude.{◌≤◌, ◌<◌, ◌-◌, ℕ, List, length, take, drop, Bool, IsTrue, Option, Some, None, IfSome, is_some, option_map}
use Rattle.bs_desk.specs.declared.memory.MemoryDesk.TheInside.{Inside}
use Rattle.bs_desk.specs.declared.memory.Opened.{Opened}
use Rattle.bs_desk.specs.declared.plans.Plan.{Plan}
use Rattle.bs_desk.specs.Outside.{Outside}
use Rattle.bs_desk.specs.InMemory.{InMemory}
use Rattle.bs_desk.specs.Plans.{planned}
use Rattle.bs_desk.specs.Versions.{Seen, seen_of, files_of, bytes_at, name_at, IsNewest}

-- what is left of the opened file
abbrev pub rest_of : Seen → Option Opened → Option (List ℕ)
rest_of files None = None
rest_of files (Some p) = Some (take (p.end - p.from) (drop p.from (bytes_at files p.place)))

abbrev pub outside_of : Inside → Outside
outside_of m = record {
  files = Some (files_of (seen_of m.files.items));
  rest = rest_of (seen_of m.files.items) m.opened;
  out = m.out.items;
  err = m.err.items;
  file = m.file.items;
  is_open = is_some m.opened;
  is_created = is_some m.created;
  created = option_map (name_at (seen_of m.files.items)) m.created;
  can_fail = m.can_fail;
  found = m.found;
  taken = m.taken;
  read_faults = m.read_faults;
  write_faults = m.write_faults;
}

abbrev pub seen_as : Inside → InMemory
seen_as m = record { outside = outside_of m; chunk = m.chunk; opens = planned m.opens; reads = planned m.reads; creates = planned m.creates; writes = planned m.writes }

-- the opened file is one that is kept, and the part that is left lies within it
pub record IsPlace (files : Seen) (p : Opened) : Type 0 where
  pub place : p.place < length files
  pub order : p.from ≤ p.end
  pub end : p.end ≤ length (bytes_at files p.place)

-- a desk with calls that are to fail is one that can fail
abbrev pub IsAdmitted : Bool → Plan → Type 0
IsAdmitted can_fail plan = 0 < length plan.failing.items → IsTrue can_fail

-- at least one byte passes, the created file is the newest of its name, and no call fails where none can
pub record IsSound (m : Inside) : Type 0 where
  pub chunk : 0 < m.chunk
  pub opened : IfSome m.opened (IsPlace (seen_of m.files.items))
  pub created : IfSome m.created (λ i. IsNewest (seen_of m.files.items) (name_at (seen_of m.files.items) i) i)
  pub opens : IsAdmitted m.can_fail m.opens
  pub reads : IsAdmitted m.can_fail m.reads
  pub creates : IsAdmitted m.can_fail m.creates
  pub writes : IsAdmitted m.can_fail m.writes
