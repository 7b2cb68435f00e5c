-- The cell of an array at an index.
use Rattle.std.specs.Prelude.{◌≡◌, ◌<◌, ℕ, ℤ, ◌+◌, Result, Ok, Err}
use Rattle.bs_tree.specs.declared.tree.NameId.{NameId}
use Rattle.bs_tree.specs.declared.tree.Program.{Program}
use Rattle.bs_log.specs.declared.history.TrapKind.{TrapKind}
use Rattle.bs_semantics.specs.Layout.{place_of, all_cells}
use Rattle.bs_semantics.specs.Value.{indexed}

-- the cell that the index says, among all cells, or the trap of the index
abbrev pub IsCellAt : Program → NameId → ℤ → Result ℕ TrapKind → Type 0
IsCellAt p name index (Ok cell) = (i : ℕ) × (indexed (place_of p name).cells index ≡ Ok i) × (cell ≡ (place_of p name).from + i) × (cell < all_cells p.vars)
IsCellAt p name index (Err trap) = indexed (place_of p name).cells index ≡ Err trap
