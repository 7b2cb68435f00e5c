-- What is taken from a part of an overlap.
use Rattle.std.specs.Prelude.{◌≡◌, ℕ, Bool, ◌&&◌, nat_le, nat_lt}
use Rattle.bs_block.specs.Env.{ChareCells}
use Rattle.bs_semantics.specs.Run.{mix}

-- the cells that are written are taken from a part, and the chare stays the same
pub record Takes (writes : ℕ → Bool) (part old new : ChareCells) : Type 0 where
  pub this : new.this ≡ old.this
  pub cells : new.cells ≡ mix writes 0 part.cells old.cells

-- the cells from one to before another
abbrev pub between : ℕ → ℕ → ℕ → Bool
between from end cell = nat_le from cell && nat_lt cell end
