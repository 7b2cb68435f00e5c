-- What an accepted program keeps beside its tree.
use Rattle.std.specs.Prelude.{◌≡◌, ℕ, List, Option, Some, slice_get}
use Rattle.bs_tree.specs.declared.tree.Program.{Program}
use Rattle.bs_check.specs.declared.kind.Kind.{Kind}
use Rattle.bs_check.specs.Kinds.{kind_of}

-- the kind of each name that is declared, at the name's place
abbrev pub HasKinds : Program → List (Option Kind) → Type 0
HasKinds p kinds = (n : ℕ) (kind : Kind) → kind_of p (record { 0 = n }) ≡ Some kind → slice_get kinds n ≡ Some (Some kind)
