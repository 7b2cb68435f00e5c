-- Messages, mail and histories whose numbers with a sign have 64 bits.
use Rattle.std.specs.Prelude.{◌≡◌, ℤ, List, Some}
use Rattle.bs_log.specs.declared.history.Key.{Key}
use Rattle.bs_log.specs.declared.history.Message.{Message}
use Rattle.bs_log.specs.declared.history.Block.{Block}
use Rattle.bs_log.specs.declared.history.Asked.{Asked}
use Rattle.bs_log.specs.declared.history.WaitAt.{WaitAt}
use Rattle.bs_log.specs.declared.history.History.{History}
use Rattle.bs_log.specs.Valid.{IsWord}
use Rattle.bs_log.specs.Lists.{Mem}
use Rattle.bs_semantics.specs.Run.{Lookup}

abbrev pub AreWords : List ℤ → Type 0
AreWords vs = (v : ℤ) → Mem v vs → IsWord v

-- the reference and the arguments of a message
pub record MessageHasWords (m : Message) : Type 0 where
  pub reference : IsWord m.sent.key.reference
  pub args : AreWords m.args

-- the values that a block emits, and the messages that it sends
pub record BlockHasWords (x : Block) : Type 0 where
  pub emitted : AreWords x.emits
  pub sent : (m : Message) → Mem m x.sends → MessageHasWords m

-- the blocks of a history, and the references that it asks and waits for
pub record HistoryHasWords (h : History) : Type 0 where
  pub blocks : (x : Block) → Mem x h.blocks → BlockHasWords x
  pub asked : (a : Asked) → Mem a h.asked → IsWord a.key.reference
  pub waited : (w : WaitAt) → Mem w h.waits → IsWord w.key.reference

-- the arguments of each message that the mail holds
abbrev pub MailHasWords : Lookup → Type 0
MailHasWords mail = (k : Key) (m : Message) → mail k ≡ Some m → AreWords m.args
