-- What the program of histories declares, as far as they show it.
use Rattle.std.specs.Prelude.{ℕ, ℤ, ◌<◌, List}
use Rattle.bs_log.specs.declared.history.Key.{Key}
use Rattle.bs_log.specs.declared.history.Sent.{Sent}
use Rattle.bs_log.specs.declared.history.Message.{Message}
use Rattle.bs_log.specs.declared.history.Block.{Block}
use Rattle.bs_log.specs.declared.history.Asked.{Asked}
use Rattle.bs_log.specs.declared.history.WaitAt.{WaitAt}
use Rattle.bs_log.specs.declared.history.History.{History}
use Rattle.bs_log.specs.declared.log.Row.{Row}
use Rattle.bs_log.specs.declared.log.WaitRow.{WaitRow}
use Rattle.bs_log.specs.declared.log.Log.{Log}
use Rattle.bs_log.specs.Messages.{sent}
use Rattle.bs_log.specs.Valid.{IsWord}
use Rattle.bs_log.specs.Lists.{Mem}

-- a key of one of the entries, with a reference of 64 bits
pub record IsKey (entries : ℕ) (k : Key) : Type 0 where
  pub entry : k.entry < entries
  pub reference : IsWord k.reference

-- each key that is sent or waited for is of one of the entries, and each value that is emitted has 64 bits
pub record AreDeclared (entries : ℕ) (hs : List History) : Type 0 where
  pub sent : (m : Message) → Mem m (sent hs) → IsKey entries m.sent.key
  pub waited : (h : History) → Mem h hs → (w : WaitAt) → Mem w h.waits → IsKey entries w.key
  pub emitted : (h : History) → Mem h hs → (x : Block) → Mem x h.blocks → (v : ℤ) → Mem v x.emits → IsWord v

-- each key that a history sends, asks or waits for is of one of the entries
pub record AreEntries (entries : ℕ) (h : History) : Type 0 where
  pub sent : (x : Block) → Mem x h.blocks → (m : Message) → Mem m x.sends → m.sent.key.entry < entries
  pub asked : (a : Asked) → Mem a h.asked → a.key.entry < entries
  pub waited : (w : WaitAt) → Mem w h.waits → w.key.entry < entries

-- each reference that a log sends or waits for and each value that it emits has 64 bits
pub record HasWords (log : Log) : Type 0 where
  pub sent : (r : Row) → Mem r log.rows → (s : Sent) → Mem s r.sends → IsWord s.key.reference
  pub waited : (w : WaitRow) → Mem w log.waits → IsWord w.key.reference
  pub emitted : (r : Row) → Mem r log.rows → (v : ℤ) → Mem v r.emits → IsWord v
