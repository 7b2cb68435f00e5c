-- What every block is like: its cost, and what it sends (docs/model.md).
use Rattle.std.specs.Prelude.{◌≤◌, ℕ, ◌-◌, ◌^◌}
use Rattle.bs_tree.specs.declared.tree.Program.{Program}
use Rattle.bs_log.specs.declared.history.Message.{Message}
use Rattle.bs_log.specs.declared.history.Sent.{Sent}
use Rattle.bs_log.specs.declared.history.Block.{Block}
use Rattle.bs_log.specs.Lists.{Mem, InOrder}

-- a send in a block of this cost: its offset is from 1 to the cost, it has at most 2^30 bytes, and it goes to a chare
pub record IsSend (p : Program) (cost : ℕ) (s : Sent) : Type 0 where
  pub least : 1 ≤ s.offset
  pub most : s.offset ≤ cost
  pub bytes : s.bytes ≤ 2 ^ 30
  pub target : s.to ≤ p.chares - 1

-- the cost is from 1 to 2^32, and no send has an offset above that of a later one
pub record IsProper (p : Program) (x : Block) : Type 0 where
  pub least : 1 ≤ x.cost
  pub most : x.cost ≤ 2 ^ 32
  pub sends : (m : Message) → Mem m x.sends → IsSend p x.cost m.sent
  pub offsets : InOrder (λ a b. a.sent.offset ≤ b.sent.offset) x.sends
