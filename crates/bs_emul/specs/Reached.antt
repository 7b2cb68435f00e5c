-- Messages that are served one after the other, and those that are left.
use Rattle.std.specs.Prelude.{◌≡◌, ◌⊎◌, ℕ, List}
use Rattle.bs_tree.specs.declared.tree.Program.{Program}
use Rattle.bs_log.specs.declared.history.Message.{Message}
use Rattle.bs_log.specs.Lists.{Mem, Apart, InOrder}
use Rattle.bs_log.specs.Messages.{one_key, sent}
use Rattle.bs_semantics.specs.Rounds.{CleanAt, histories, round}
use Rattle.bs_semantics.specs.Starting.{AllIn}

-- these messages were served, the last one first, and those of the queue are left: together they are what the histories
-- under the served ones send, each once. No key was served twice. Where a round is Clean, all that was served is of it
pub record IsReached (p : Program) (limit : ℕ) (ms queue : List Message) : Type 0 where
  pub served : AllIn ms (sent (histories p limit ms))
  pub queued : AllIn queue (sent (histories p limit ms))
  pub all : (m : Message) → Mem m (sent (histories p limit ms)) → Mem m ms ⊎ Mem m queue
  pub unserved : (m : Message) → Mem m queue → Mem m ms → ⊥
  pub distinct : InOrder (λ x y. x ≡ y → ⊥) queue
  pub keys : Apart one_key ms
  pub clean : (n : ℕ) → CleanAt p limit n → AllIn ms (sent (round p limit n))

-- no round is Clean
abbrev pub NeverClean : Program → ℕ → Type 0
NeverClean p limit = (n : ℕ) → CleanAt p limit n → ⊥
