-- The versions of files that a desk in memory keeps, the newest last, and the files that they are.
use Rattle.std.specs.Prelude.{◌≡◌, ℕ, zero, suc, List, [], ◌∷◌, ◌++◌, length, Bool, true, Option, Some, None, if◌then◌else◌}
use Rattle.std.specs.Cmp.Lexicographic.{slice_cmp}
use Rattle.std.specs.Ordering.{nat_cmp, eq_by_cmp}
use Rattle.std.specs.FinMap as map
use Rattle.bs_desk.specs.declared.versions.Version.{Version}
use Rattle.bs_desk.specs.Outside.{Files}

-- what is seen of the versions: names and contents, without the room that a vector keeps for more
abbrev pub Seen : Type 0
Seen = List (List ℕ × List ℕ)

abbrev pub seen_of : List Version → Seen
seen_of [] = []
seen_of (v ∷ vs) = (v.name.items, v.bytes.items) ∷ seen_of vs

abbrev pub same_name : List ℕ → List ℕ → Bool
same_name a b = eq_by_cmp (slice_cmp nat_cmp) a b

abbrev pub or_else : Option (List ℕ) → Option (List ℕ) → Option (List ℕ)
or_else None other = other
or_else (Some bytes) other = Some bytes

-- the newest contents of that name
abbrev pub found : Seen → List ℕ → Option (List ℕ)
found [] name = None
found (v ∷ vs) name = or_else (found vs name) (if same_name name v.0 then Some v.1 else None)

-- those files, with each version written over them
abbrev pub over : Files → Seen → Files
over files [] = files
over files (v ∷ vs) = over (map.insert files v.0 v.1) vs

abbrev pub files_of : Seen → Files
files_of vs = over map.empty vs

-- the newest version of that name stands at this place
abbrev pub IsNewest : Seen → List ℕ → ℕ → Type 0
IsNewest [] name place = ⊥
IsNewest (v ∷ vs) name zero = (same_name name v.0 ≡ true) × (found vs name ≡ None)
IsNewest (v ∷ vs) name (suc place) = IsNewest vs name place

abbrev pub bytes_at : Seen → ℕ → List ℕ
bytes_at [] place = []
bytes_at (v ∷ vs) zero = v.1
bytes_at (v ∷ vs) (suc place) = bytes_at vs place

abbrev pub name_at : Seen → ℕ → List ℕ
name_at [] place = []
name_at (v ∷ vs) zero = v.0
name_at (v ∷ vs) (suc place) = name_at vs place

-- with bytes at the end of the version at this place
abbrev pub lengthened : Seen → ℕ → List ℕ → Seen
lengthened [] place bytes = []
lengthened (v ∷ vs) zero bytes = (v.0, v.1 ++ bytes) ∷ vs
lengthened (v ∷ vs) (suc place) bytes = v ∷ lengthened vs place bytes

-- where the created file stands after a version of that name was put behind these
abbrev pub moved : Seen → Option ℕ → List ℕ → Option ℕ
moved vs None name = None
moved vs (Some place) name = if same_name (name_at vs place) name then Some (length vs) else Some place
