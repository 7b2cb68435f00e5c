-- Blocks that were started one after the other, whether the states are clean or not.
use Rattle.std.specs.Prelude.{◌≤◌, ℕ, List, [], ◌∷◌}
use Rattle.bs_tree.specs.declared.tree.Program.{Program}
use Rattle.bs_log.specs.declared.history.Message.{Message}
use Rattle.bs_log.specs.Lists.{Mem, Apart}
use Rattle.bs_log.specs.Messages.{one_key}
use Rattle.bs_semantics.specs.Serial.{Machine, Started, IsNext, messages}

-- what a block sends is given to the chares: no chare is sent a key again, and no message is deeper than the limit
pub record IsSent (limit : ℕ) (bs : List Started) (b : Started) : Type 0 where
  pub keys : Apart one_key (messages (b ∷ bs))
  pub low : (m : Message) → Mem m b.block.sends → m.origin.depth ≤ limit

-- the model begins with nothing started, and starts the next block where what it sends can be given to the chares
pub data AreStarted (p : Program) (limit : ℕ) (m : Machine) : List Started → Type 0 where
  none_yet : AreStarted p limit m []
  one_more : (bs : List Started) (b : Started) → AreStarted p limit m bs → IsNext m p limit bs b → IsSent limit bs b → AreStarted p limit m (b ∷ bs)
