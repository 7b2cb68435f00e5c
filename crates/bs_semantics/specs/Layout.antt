-- Where the variables and entries of a program stand: cells and entries are numbered from 0 in the order of
-- declaration, a scalar has one cell and an array as many as its length (docs/model.md).
use Rattle.std.specs.Prelude.{ℕ, ◌+◌, Bool, ◌&&◌, if◌then◌else◌, List, [], ◌∷◌, Option, Some, None, ◌==◌, nat_lt, nat_le}
use Rattle.bs_tree.specs.declared.tree.NameId.{NameId}
use Rattle.bs_tree.specs.declared.tree.VarDecl.{VarDecl}
use Rattle.bs_tree.specs.declared.tree.EntryDecl.{EntryDecl}
use Rattle.bs_tree.specs.declared.tree.Program.{Program}

-- where a variable begins, and how many cells it has
pub record Place : Type 0 where
  pub from : ℕ
  pub cells : ℕ

abbrev pub width : Option ℕ → ℕ
width None = 1
width (Some n) = n

abbrev pub find_var : List VarDecl → ℕ → NameId → Place
find_var [] from name = record { from = 0; cells = 0 }
find_var (v ∷ vs) from name = if v.name.0 == name.0 then record { from = from; cells = width v.cells } else find_var vs (from + width v.cells) name

abbrev pub place_of : Program → NameId → Place
place_of p name = find_var p.vars 0 name

-- whether a cell is one of a variable's
abbrev pub owns : Program → NameId → ℕ → Bool
owns p name cell = nat_le (place_of p name).from cell && nat_lt cell ((place_of p name).from + (place_of p name).cells)

abbrev pub all_cells : List VarDecl → ℕ
all_cells [] = 0
all_cells (v ∷ vs) = width v.cells + all_cells vs

abbrev pub find_entry : List EntryDecl → ℕ → NameId → ℕ
find_entry [] k name = k
find_entry (e ∷ es) k name = if e.name.0 == name.0 then k else find_entry es (k + 1) name

abbrev pub entry_of : Program → NameId → ℕ
entry_of p name = find_entry p.entries 0 name
