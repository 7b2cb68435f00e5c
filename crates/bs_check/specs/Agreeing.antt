-- What a statement writes, by the names of variables and by their cells (docs/program-text.md, docs/model.md).
use Rattle.std.specs.Prelude.{◌≡◌, ℕ, Bool, true, List}
use Rattle.bs_tree.specs.Reads.{stmt_writes}
use Rattle.bs_tree.specs.declared.tree.NameId.{NameId}
use Rattle.bs_tree.specs.declared.tree.Stmt.{Stmt}
use Rattle.bs_tree.specs.declared.tree.Program.{Program}
use Rattle.bs_log.specs.Lists.{InOrder}
use Rattle.bs_semantics.specs.Layout.{owns}
use Rattle.bs_semantics.specs.Run.{meant}

-- the statement writes a variable, by its name, that has this cell
pub record WritesOwner (p : Program) (s : Stmt) (cell : ℕ) : Type 0 where
  pub name : NameId
  pub writes : stmt_writes name s ≡ true
  pub owns : owns p name cell ≡ true

-- whether a statement of the program writes a cell, as runs are defined with a bound on turns and for a chare
abbrev pub writes_cell : Program → ℕ → ℕ → Stmt → ℕ → Bool
writes_cell p limit this s = (meant p limit this s).writes

-- no cell is written by two of these parts
abbrev pub WriteApart : Program → ℕ → ℕ → List Stmt → Type 0
WriteApart p limit this = InOrder (λ a b. (cell : ℕ) → writes_cell p limit this a cell ≡ true → writes_cell p limit this b cell ≡ true → ⊥)
