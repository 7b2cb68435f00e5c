-- The cells of a declared variable are among those of all variables.
use Rattle.std.proofs.Common.{◌≡◌, ℕ, ◌+◌, ◌≤◌, ◌==◌, true, false, if◌then◌else◌, List, [], ◌∷◌, Option, Some, None, subst, add_assoc, zero-add, arith}
use Rattle.bs_tree.specs.declared.tree.NameId.{NameId}
use Rattle.bs_tree.specs.declared.tree.VarDecl.{VarDecl}
use Rattle.bs_tree.specs.declared.tree.EntryDecl.{EntryDecl}
use Rattle.bs_tree.specs.declared.tree.Program.{Program}
use Rattle.bs_semantics.specs.Layout.{width, all_cells}
use Rattle.bs_check.specs.declared.kind.Kind.{Kind}
use Rattle.bs_check.specs.declared.kind.Kind.TheVariants.{Scalar, Array, Entry}
use Rattle.bs_check.specs.Kinds.{kind_from, var_kind, entry_kind, or_entry, kind_of}

-- the cells of a variable of this kind are below the end
abbrev pub IsWithin : ℕ → Kind → Type 0
IsWithin end (Scalar cell) = cell + 1 ≤ end
IsWithin end (Array cell length) = cell + length ≤ end
IsWithin end (Entry number params) = Unit {0}

abbrev KindWithin : ℕ → Option Kind → Type 0
KindWithin end None = Unit {0}
KindWithin end (Some kind) = IsWithin end kind

from_within : (from : ℕ) (cells : Option ℕ) (rest : ℕ) → IsWithin (from + (width cells + rest)) (kind_from from cells)
from_within from None rest = omega arith
from_within from (Some n) rest = omega arith

var_within : (vs : List VarDecl) (from : ℕ) (name : NameId) → KindWithin (from + all_cells vs) (var_kind vs from name)
var_within [] from name = tt
var_within (v ∷ vs) from name =
    elim (v.name.0 == name.0) as (λ b. KindWithin (from + (width v.cells + all_cells vs)) (if b then Some (kind_from from v.cells) else var_kind vs (from + width v.cells) name)) [
      | true ↦ from_within from v.cells (all_cells vs)
      | false ↦ subst (λ end. KindWithin end (var_kind vs (from + width v.cells) name)) (add_assoc from (width v.cells) (all_cells vs)) (var_within vs (from + width v.cells) name)
    ]

entry_within : (es : List EntryDecl) (number : ℕ) (name : NameId) (end : ℕ) → KindWithin end (entry_kind es number name)
entry_within [] number name end = tt
entry_within (e ∷ es) number name end =
    elim (e.name.0 == name.0) as (λ b. KindWithin end (if b then Some (Entry number e.params) else entry_kind es (number + 1) name)) [ true ↦ tt | false ↦ entry_within es (number + 1) name end ]

one_within : (end : ℕ) (as_var as_entry : Option Kind) → KindWithin end as_var → KindWithin end as_entry → KindWithin end (or_entry as_var as_entry)
one_within end None as_entry p q = q
one_within end (Some kind) as_entry p q = p

pub kind_within : (p : Program) (name : NameId) (kind : Kind) → kind_of p name ≡ Some kind → IsWithin (all_cells p.vars) kind
kind_within p name kind e =
    subst (λ o. KindWithin (all_cells p.vars) o) e (one_within (all_cells p.vars) (var_kind p.vars 0 name) (entry_kind p.entries 0 name) (subst (λ end. KindWithin end (var_kind p.vars 0 name)) (zero-add (all_cells p.vars)) (var_within p.vars 0 name)) (entry_within p.entries 0 name (all_cells p.vars)))
