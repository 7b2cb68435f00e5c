-- What a run of a block hands out.
use Rattle.std.specs.Prelude.{◌≡◌, ℕ, map, Result, Ok, Err}
use Rattle.bs_semantics.specs.Acts.{Done}
use Rattle.bs_block.specs.declared.done.BlockDone.{BlockDone}
use Rattle.bs_block.specs.declared.done.BlockFault.{BlockFault}
use Rattle.bs_block.specs.declared.done.BlockFault.TheVariants.{Trap, Memory}
use Rattle.bs_block.specs.Env.{ChareCells}
use Rattle.bs_block.specs.Progress.{parcel_of}

-- the block that the acts come to, with the cells that it leaves, or their trap. After a trap, and where memory is
-- wanting, the cells are as before
abbrev pub IsBlock : Done → ChareCells → ChareCells → Result BlockDone BlockFault → Type 0
IsBlock done old new (Ok block) = (steps : ℕ) × (done ≡ Ok (record { cells = new.cells; cost = block.cost; steps = steps; sends = map parcel_of block.sends; emits = block.emits }))
IsBlock done old new (Err (Trap kind)) = (done ≡ Err kind) × (new ≡ old)
IsBlock done old new (Err Memory) = new ≡ old
