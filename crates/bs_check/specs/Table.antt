-- The kinds of names in a list, each at its name's place.
use Rattle.std.specs.Prelude.{◌≡◌, ℕ, ◌==◌, if◌then◌else◌, List, Option, Some, None, slice_get}
use Rattle.bs_tree.specs.declared.tree.NameId.{NameId}
use Rattle.bs_tree.specs.declared.tree.Program.{Program}
use Rattle.bs_check.specs.declared.kind.Kind.{Kind}
use Rattle.bs_check.specs.Kinds.{kind_of}

abbrev pub joined : Option (Option Kind) → Option Kind
joined None = None
joined (Some kind) = kind

-- what the list has of the name at this place
abbrev pub kind_in : List (Option Kind) → ℕ → Option Kind
kind_in kinds n = joined (slice_get kinds n)

-- the name whose place is this
abbrev pub name_at : ℕ → NameId
name_at n = record { 0 = n }

-- this kind at the name's own place
abbrev pub kind_if : NameId → Kind → ℕ → Option Kind
kind_if name kind n = if name.0 == n then Some kind else None

-- the list has the kind of each name that is declared, and of no other
abbrev pub IsTable : Program → List (Option Kind) → Type 0
IsTable p kinds = (n : ℕ) → kind_in kinds n ≡ kind_of p (name_at n)
