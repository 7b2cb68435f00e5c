-- A mail into which messages were put.
use Rattle.std.specs.Prelude.{◌≡◌, ℕ, List, [], ◌∷◌, None}
use Rattle.bs_log.specs.declared.history.Message.{Message}
use Rattle.bs_log.specs.Lists.{Mem}
use Rattle.bs_semantics.specs.Run.{Lookup}
use Rattle.bs_match.specs.Mail.{with_message}

-- what an empty mail finds after the messages were put, the last of the list first
abbrev pub filled : List Message → Lookup
filled [] k = None
filled (m ∷ ms) k = with_message m (filled ms) k

-- none of them was refused, as no message of its key was held
abbrev pub NoneRefused : List Message → Type 0
NoneRefused [] = Unit {0}
NoneRefused (m ∷ ms) = (filled ms m.sent.key ≡ None) × NoneRefused ms

-- the second list has the messages of the first that go to the chare, and no others
pub record AreThoseTo (c : ℕ) (ms ps : List Message) : Type 0 where
  pub only : (m : Message) → Mem m ps → Mem m ms × (m.sent.to ≡ c)
  pub all : (m : Message) → Mem m ms → m.sent.to ≡ c → Mem m ps
