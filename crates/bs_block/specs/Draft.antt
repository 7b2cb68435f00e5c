-- The cells of a chare during a block, which may have to be given back.
use Rattle.std.specs.Prelude.{◌<◌, List, [], ◌∷◌, length, slice_set, All, refl}
use Rattle.std.specs.Coded.{Coded, code_by, coded×, coded_list, coded_ℤ}
use Rattle.bs_semantics.specs.Value.{Cells}
use Rattle.bs_block.specs.declared.draft.Held.{Held}
use Rattle.bs_block.specs.Env.{ChareCells, chare_cells_code}

-- the cells now, and as they were before the block
pub record Drafted : Type 0 where
  pub now : ChareCells
  pub before : Cells

-- the code of such cells: the pair of both fields
abbrev pub drafted_code : Coded Drafted
drafted_code = code_by (ChareCells × Cells) (coded× chare_cells_code (coded_list coded_ℤ)) (λ d. (d.now, d.before)) (λ p. record { now = p.0; before = p.1 }) (λ _. refl)

-- the cells with the values that they held put back, the newest one first
abbrev pub undone : List Held → Cells → Cells
undone [] cells = cells
undone (h ∷ hs) cells = slice_set (undone hs cells) h.cell h.value

-- the block has begun with these cells
abbrev pub fresh : ChareCells → Drafted
fresh e = record { now = e; before = e.cells }

-- each value that was held is of a cell that exists
abbrev pub AllExist : List Held → Cells → Type 0
AllExist held cells = All (λ h. h.cell < length cells) held
