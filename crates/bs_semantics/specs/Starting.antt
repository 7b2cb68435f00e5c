-- Blocks that were started one after the other, each under the mail that those before it sent (docs/model.md).
use Rattle.std.specs.Prelude.{◌≤◌, ℕ, List}
use Rattle.bs_tree.specs.declared.tree.Program.{Program}
use Rattle.bs_log.specs.declared.history.Message.{Message}
use Rattle.bs_log.specs.declared.history.Block.{Block}
use Rattle.bs_log.specs.Size.{size_all}
use Rattle.bs_log.specs.Lists.{Mem}
use Rattle.bs_log.specs.Sound.{Once}
use Rattle.bs_log.specs.Messages.{sent}
use Rattle.bs_semantics.specs.Run.{history}
use Rattle.bs_semantics.specs.Rounds.{mail_to, chares, histories, round}
use Rattle.bs_semantics.specs.Growth.{Subsequence, HistoryWithin}
use Rattle.bs_semantics.specs.Serial.{Started, messages, IsEnabled}

-- each started block is a block of its chare's history under what the started blocks sent
abbrev pub AreBlocks : Program → ℕ → List Started → Type 0
AreBlocks p limit bs = (b : Started) → Mem b bs → Mem b.chare (chares p) × Mem b.block (history p limit b.chare (mail_to (messages bs) b.chare)).blocks

-- no block can be started
abbrev pub NoneEnabled : Program → ℕ → List Started → Type 0
NoneEnabled p limit bs = (c : ℕ) (x : Block) → IsEnabled p limit bs c x → ⊥

abbrev pub AllIn : List Message → List Message → Type 0
AllIn xs ys = (m : Message) → Mem m xs → Mem m ys

-- under these messages each history is within that of round n, nothing is sent or asked twice, and the size is at most
-- the limit
pub record IsWithinRound (p : Program) (limit n : ℕ) (ms : List Message) : Type 0 where
  pub each : (c : ℕ) → HistoryWithin (history p limit c (mail_to ms c)) (history p limit c (mail_to (sent (round p limit n)) c))
  pub sends : Subsequence Message (sent (histories p limit ms)) (sent (round p limit n))
  pub once : Once (histories p limit ms)
  pub size : size_all (histories p limit ms) ≤ limit
