-- What the names of a program are declared as (docs/program-text.md).
use Rattle.std.specs.Prelude.{◌≡◌, ℕ, ◌+◌, ◌==◌, if◌then◌else◌, List, [], ◌∷◌, Option, Some, None}
use Rattle.bs_tree.specs.declared.tree.NameId.{NameId}
use Rattle.bs_tree.specs.declared.tree.VarDecl.{VarDecl}
use Rattle.bs_tree.specs.declared.tree.EntryDecl.{EntryDecl}
use Rattle.bs_tree.specs.declared.tree.Program.{Program}
use Rattle.bs_semantics.specs.Layout.{width, place_of, entry_of}
use Rattle.bs_check.specs.declared.kind.Kind.{Kind}
use Rattle.bs_check.specs.declared.kind.Kind.TheVariants.{Scalar, Array, Entry}

-- a variable whose first cell is this one
abbrev pub kind_from : ℕ → Option ℕ → Kind
kind_from from None = Scalar from
kind_from from (Some length) = Array from length

-- among variables, the first of which has its first cell here
abbrev pub var_kind : List VarDecl → ℕ → NameId → Option Kind
var_kind [] from name = None
var_kind (v ∷ vs) from name = if v.name.0 == name.0 then Some (kind_from from v.cells) else var_kind vs (from + width v.cells) name

-- among entries, the first of which has this number
abbrev pub entry_kind : List EntryDecl → ℕ → NameId → Option Kind
entry_kind [] number name = None
entry_kind (e ∷ es) number name = if e.name.0 == name.0 then Some (Entry number e.params) else entry_kind es (number + 1) name

abbrev pub or_entry : Option Kind → Option Kind → Option Kind
or_entry (Some kind) other = Some kind
or_entry None other = other

-- what a name is declared as, if it is
abbrev pub kind_of : Program → NameId → Option Kind
kind_of p name = or_entry (var_kind p.vars 0 name) (entry_kind p.entries 0 name)

-- the variable or entry of this kind stands where the program's layout has it
abbrev pub IsPlaced : Program → NameId → Kind → Type 0
IsPlaced p name (Scalar cell) = place_of p name ≡ record { from = cell; cells = 1 }
IsPlaced p name (Array cell length) = place_of p name ≡ record { from = cell; cells = length }
IsPlaced p name (Entry number params) = entry_of p name ≡ number
