-- The cells of one chare, as contracts see them.
use Rattle.std.specs.Prelude.{◌≡◌, ◌<◌, ℕ, ℤ, pos, List, length, replicate, refl}
use Rattle.std.specs.Coded.{Coded, code_by, coded×, coded_ℕ, coded_ℤ, coded_list}
use Rattle.bs_tree.specs.declared.tree.Program.{Program}
use Rattle.bs_semantics.specs.Layout.{all_cells}
use Rattle.bs_semantics.specs.Value.{Cells}

-- a chare's number, and what its cells hold
pub record ChareCells : Type 0 where
  pub this : ℕ
  pub cells : Cells

-- the code of such cells: the pair of both fields
abbrev pub chare_cells_code : Coded ChareCells
chare_cells_code = code_by (ℕ × List ℤ) (coded× coded_ℕ (coded_list coded_ℤ)) (λ e. (e.this, e.cells)) (λ p. record { this = p.0; cells = p.1 }) (λ _. refl)

-- the chare is one of the program's, and it has all the program's cells
pub record MadeFor (p : Program) (e : ChareCells) : Type 0 where
  pub chare : e.this < p.chares
  pub cells : length e.cells ≡ all_cells p.vars

-- a chare before it runs: each cell holds 0
abbrev pub zeroed : Program → ℕ → ChareCells
zeroed p this = record { this = this; cells = replicate (all_cells p.vars) (pos 0) }
