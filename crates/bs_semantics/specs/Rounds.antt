-- The rounds of a program, and closed sets of histories (docs/model.md).
use Rattle.std.specs.Prelude.{◌≡◌, ◌≤◌, ◌<◌, ℕ, zero, suc, ◌+◌, if◌then◌else◌, List, [], ◌∷◌, Some, None, map}
use Rattle.bs_tree.specs.declared.tree.Program.{Program}
use Rattle.bs_log.specs.declared.history.Key.{Key}
use Rattle.bs_log.specs.declared.history.Message.{Message}
use Rattle.bs_log.specs.declared.history.History.{History}
use Rattle.bs_log.specs.Lists.{Mem}
use Rattle.bs_log.specs.Messages.{sent, is_for}
use Rattle.bs_log.specs.Sound.{Once}
use Rattle.bs_log.specs.Size.{size_all}
use Rattle.bs_semantics.specs.Run.{Lookup, history}

-- the mail of a chare as a look-up
abbrev pub mail_to : List Message → ℕ → Lookup
mail_to [] c k = None
mail_to (m ∷ ms) c k = if is_for c k m then Some m else mail_to ms c k

-- n numbers from k on
abbrev pub from_to : ℕ → ℕ → List ℕ
from_to k zero = []
from_to k (suc n) = k ∷ from_to (k + 1) n

-- the chares are numbered from 0
abbrev pub chares : Program → List ℕ
chares p = from_to 0 p.chares

-- the histories of all chares under a mail
abbrev pub histories : Program → ℕ → List Message → List History
histories p limit mail = map (λ c. history p limit c (mail_to mail c)) (chares p)

-- no mail at first, and then all that the round before sent
abbrev pub mail : Program → ℕ → ℕ → List Message
mail p limit zero = []
mail p limit (suc n) = sent (histories p limit (mail p limit n))

-- round n: the histories of all chares under its mail
abbrev pub round : Program → ℕ → ℕ → List History
round p limit n = histories p limit (mail p limit n)

-- the same mail for each chare
abbrev pub SameMail : List Message → List Message → Type 0
SameMail a b = (c : ℕ) (k : Key) → mail_to a c k ≡ mail_to b c k

-- round n is decided as none of the three
pub record Undecided (p : Program) (limit : ℕ) (n : ℕ) : Type 0 where
  pub size : size_all (round p limit n) ≤ limit
  pub once : Once (round p limit n)
  pub news : SameMail (mail p limit (suc n)) (mail p limit n) → ⊥

-- the verdict is Clean, at round n
pub record CleanAt (p : Program) (limit : ℕ) (n : ℕ) : Type 0 where
  pub before : (m : ℕ) → m < n → Undecided p limit m
  pub size : size_all (round p limit n) ≤ limit
  pub once : Once (round p limit n)
  pub same : SameMail (mail p limit (suc n)) (mail p limit n)

-- each history is that under what the set sends, nothing is sent or asked twice, and the size is at most the limit
pub record Closed (p : Program) (limit : ℕ) (hs : List History) : Type 0 where
  pub same : hs ≡ histories p limit (sent hs)
  pub once : Once hs
  pub size : size_all hs ≤ limit

-- the same messages
pub record SameMessages (a b : List Message) : Type 0 where
  pub of_a : (m : Message) → Mem m a → Mem m b
  pub of_b : (m : Message) → Mem m b → Mem m a
