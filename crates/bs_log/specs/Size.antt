-- The size of a history: how much there is to keep of it (docs/model.md).
use Rattle.std.specs.Prelude.{ℕ, ◌+◌, List, length, sum_by}
use Rattle.bs_log.specs.declared.history.Block.{Block}
use Rattle.bs_log.specs.declared.history.History.{History}

-- the block itself, its causes, its sends and its values
abbrev pub block_size : Block → ℕ
block_size b = 1 + length b.after + length b.mail + length b.sends + length b.emits

-- blocks, block causes, message causes, sends, values, keys asked and traps
abbrev pub size : History → ℕ
size h = sum_by block_size h.blocks + length h.asked + length h.traps

abbrev pub size_all : List History → ℕ
size_all hs = sum_by size hs
