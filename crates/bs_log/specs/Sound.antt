-- What histories are like by themselves, whatever the program is: their blocks rise, their causes are there, and no key is
-- sent or asked twice (docs/model.md).
use Rattle.std.specs.Prelude.{◌≡◌, ◌⊎◌, ℕ, ◌+◌, false, List, [], ◌∷◌}
use Rattle.bs_tree.specs.declared.tree.Path.{Path}
use Rattle.bs_log.specs.declared.history.Origin.{Origin}
use Rattle.bs_log.specs.declared.history.Message.{Message}
use Rattle.bs_log.specs.declared.history.Block.{Block}
use Rattle.bs_log.specs.declared.history.WaitAt.{WaitAt}
use Rattle.bs_log.specs.declared.history.History.{History}
use Rattle.bs_log.specs.Lists.{Mem, Apart, Each}
use Rattle.bs_log.specs.Messages.{sent, is_for, one_key, one_asked}
use Rattle.bs_log.specs.Rising.{Rising}

-- each block cause is the path of an earlier block
abbrev pub CausesBefore : (Path → Type 0) → List Block → Type 0
CausesBefore P [] = Unit {0}
CausesBefore P (x ∷ xs) = ((q : Path) → Mem q x.after → P q) × CausesBefore (λ q. (q ≡ x.path) ⊎ P q) xs

-- messages of a block of the chare, numbered from k on
abbrev pub Numbered : ℕ → Block → ℕ → List Message → Type 0
Numbered c x k [] = Unit {0}
Numbered c x k (m ∷ ms) = (m.origin ≡ record { chare = c; path = x.path; index = k; depth = x.depth }) × Numbered c x (k + 1) ms

-- some history sends a message of this origin to the chare
pub record SentTo (hs : List History) (c : ℕ) (o : Origin) : Type 0 where
  pub message : Message
  pub is_sent : Mem message (sent hs)
  pub to : message.sent.to ≡ c
  pub origin : message.origin ≡ o

-- one history, that of the chare c, among all
pub record IsSound (hs : List History) (c : ℕ) (h : History) : Type 0 where
  pub rising : Rising h.blocks
  pub causes : CausesBefore (λ q. ⊥) h.blocks
  pub sends : (x : Block) → Mem x h.blocks → Numbered c x 1 x.sends
  pub mail : (x : Block) → Mem x h.blocks → (o : Origin) → Mem o x.mail → SentTo hs c o
  pub waits : (w : WaitAt) → Mem w h.waits → (m : Message) → Mem m (sent hs) → is_for c w.key m ≡ false

-- the histories of the chares from c on, among all
abbrev pub AreSound : List History → ℕ → List History → Type 0
AreSound all c [] = Unit {0}
AreSound all c (h ∷ hs) = IsSound all c h × AreSound all (c + 1) hs

-- no chare is sent one key twice, or asks one key twice
pub record Once (hs : List History) : Type 0 where
  pub sent : Apart one_key (sent hs)
  pub asked : Each (λ h. Apart one_asked h.asked) hs
