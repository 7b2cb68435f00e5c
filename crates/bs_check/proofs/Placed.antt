-- A name that is declared stands where the layout of the program has it.
use Rattle.std.proofs.Common.{ap, ◌∙◌, ◌≡◌, ℕ, ◌+◌, ◌==◌, true, false, if◌then◌else◌, List, [], ◌∷◌, Option, Some, None, refl, subst, IsSome, slice_get}
use Rattle.bs_tree.specs.declared.tree.NameId.{NameId}
use Rattle.bs_tree.specs.declared.tree.VarDecl.{VarDecl}
use Rattle.bs_tree.specs.declared.tree.EntryDecl.{EntryDecl}
use Rattle.bs_tree.specs.declared.tree.Program.{Program}
use Rattle.bs_semantics.specs.Layout.{Place, width, find_var, find_entry, place_of, entry_of}
use Rattle.bs_check.specs.declared.kind.Kind.{Kind}
use Rattle.bs_check.specs.declared.kind.Kind.TheVariants.{Scalar, Array, Entry}
use Rattle.bs_check.specs.Table.{joined, IsTable}
use Rattle.bs_check.specs.Accepted.{HasKinds}
use Rattle.bs_check.specs.Kinds.{kind_from, var_kind, entry_kind, or_entry, kind_of, IsPlaced}

-- the kind of a variable at this place
abbrev IsAt : Place → Kind → Type 0
IsAt place (Scalar cell) = place ≡ record { from = cell; cells = 1 }
IsAt place (Array cell length) = place ≡ record { from = cell; cells = length }
IsAt place (Entry number params) = ⊥

from_is_at : (from : ℕ) (cells : Option ℕ) → IsAt (record { from = from; cells = width cells }) (kind_from from cells)
from_is_at from None = refl
from_is_at from (Some n) = refl

abbrev AtKind : Place → Option Kind → Type 0
AtKind place None = Unit {0}
AtKind place (Some kind) = IsAt place kind

var_is_at : (vs : List VarDecl) (from : ℕ) (name : NameId) → AtKind (find_var vs from name) (var_kind vs from name)
var_is_at [] from name = tt
var_is_at (v ∷ vs) from name =
    elim (v.name.0 == name.0) as (λ b. AtKind (if b then record { from = from; cells = width v.cells } else find_var vs (from + width v.cells) name) (if b then Some (kind_from from v.cells) else var_kind vs (from + width v.cells) name)) [ true ↦ from_is_at from v.cells | false ↦ var_is_at vs (from + width v.cells) name ]

-- the kind of an entry of this number
abbrev IsNumber : ℕ → Kind → Type 0
IsNumber number (Scalar cell) = ⊥
IsNumber number (Array cell length) = ⊥
IsNumber number (Entry n params) = number ≡ n

abbrev AtNumber : ℕ → Option Kind → Type 0
AtNumber number None = Unit {0}
AtNumber number (Some kind) = IsNumber number kind

entry_is_at : (es : List EntryDecl) (k : ℕ) (name : NameId) → AtNumber (find_entry es k name) (entry_kind es k name)
entry_is_at [] k name = tt
entry_is_at (e ∷ es) k name =
    elim (e.name.0 == name.0) as (λ b. AtNumber (if b then k else find_entry es (k + 1) name) (if b then Some (Entry k e.params) else entry_kind es (k + 1) name)) [ true ↦ refl | false ↦ entry_is_at es (k + 1) name ]

abbrev Placed : Place → ℕ → Option Kind → Type 0
Placed place number (Some (Scalar cell)) = place ≡ record { from = cell; cells = 1 }
Placed place number (Some (Array cell length)) = place ≡ record { from = cell; cells = length }
Placed place number (Some (Entry n params)) = number ≡ n
Placed place number None = Unit {0}

one_is_placed : (place : Place) (number : ℕ) (as_var as_entry : Option Kind) → AtKind place as_var → AtNumber number as_entry → Placed place number (or_entry as_var as_entry)
one_is_placed place number (Some (Scalar cell)) as_entry p q = p
one_is_placed place number (Some (Array cell length)) as_entry p q = p
one_is_placed place number (Some (Entry n params)) as_entry p q = absurd p
one_is_placed place number None None p q = tt
one_is_placed place number None (Some (Scalar cell)) p q = absurd q
one_is_placed place number None (Some (Array cell length)) p q = absurd q
one_is_placed place number None (Some (Entry n params)) p q = q

placed_is : (p : Program) (name : NameId) (kind : Kind) → Placed (place_of p name) (entry_of p name) (Some kind) → IsPlaced p name kind
placed_is p name (Scalar cell) h = h
placed_is p name (Array cell length) h = h
placed_is p name (Entry n params) h = h

-- a declared name is placed as its kind says
pub is_placed : (p : Program) (name : NameId) (kind : Kind) → kind_of p name ≡ Some kind → IsPlaced p name kind
is_placed p name kind h =
    placed_is p name kind (subst (λ (o : Option Kind). Placed (place_of p name) (entry_of p name) o) h (one_is_placed (place_of p name) (entry_of p name) (var_kind p.vars 0 name) (entry_kind p.entries 0 name) (var_is_at p.vars 0 name) (entry_is_at p.entries 0 name)))

same_kind : (o : Option Kind) (found : Option (Option Kind)) (kind : Kind) → IsSome o → ((k : Kind) → o ≡ Some k → found ≡ Some (Some k)) → found ≡ Some (Some kind) → o ≡ Some kind
same_kind None found kind is f h = absurd (cc)
same_kind (Some k) found kind is f h = let e = f k refl in cc

-- what the table has of a declared name is its kind
pub kind_is : (p : Program) (kinds : List (Option Kind)) (name : NameId) (kind : Kind) → HasKinds p kinds → IsSome (kind_of p name) → slice_get kinds name.0 ≡ Some (Some kind) → kind_of p name ≡ Some kind
kind_is p kinds name kind has is h = same_kind (kind_of p name) (slice_get kinds name.0) kind is (λ k e. has name.0 k e) h

some_kind : (o : Option (Option Kind)) (kind : Kind) → joined o ≡ Some kind → o ≡ Some (Some kind)
some_kind None kind h = absurd (cc)
some_kind (Some o) kind h = ap Some h

pub has_kinds : (p : Program) (kinds : List (Option Kind)) → IsTable p kinds → HasKinds p kinds
has_kinds p kinds table n kind h = some_kind (slice_get kinds n) kind (table n ∙ h)
