-- What a block that ended is written as.
use Rattle.std.specs.Prelude.{ℕ, List, [], map}
use Rattle.bs_log.specs.declared.history.Block.{Block}
use Rattle.bs_block.specs.declared.done.BlockDone.{BlockDone}
use Rattle.bs_block.specs.Progress.{parcel_of}
use Rattle.bs_semantics.specs.Run.{Causes, made}

-- the block of a chare, a statement and a path, on these causes
abbrev pub made_from : ℕ → ℕ → List ℕ → Causes → BlockDone → Block
made_from this n path k done = made this n path k (record { cells = []; cost = done.cost; steps = 0; sends = map parcel_of done.sends; emits = done.emits })
