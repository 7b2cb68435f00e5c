-- The mails of the chares, and the histories under them.
use Rattle.std.specs.Prelude.{◌≡◌, ◌≤◌, ◌<◌, ℕ, ◌==◌, if◌then◌else◌, List, [], ◌∷◌, Option, Some, None, length, slice_get}
use Rattle.bs_tree.specs.declared.tree.Program.{Program}
use Rattle.bs_log.specs.declared.history.Key.{Key}
use Rattle.bs_log.specs.declared.history.Message.{Message}
use Rattle.bs_log.specs.declared.history.History.{History}
use Rattle.bs_log.specs.Size.{size, size_all}
use Rattle.bs_log.specs.Lists.{Mem, Apart}
use Rattle.bs_log.specs.Messages.{one_key}
use Rattle.bs_match.specs.Mail.{lookup, with_message}
use Rattle.bs_semantics.specs.Run.{Lookup, history}
use Rattle.bs_model.specs.But.{HoldsBut}

-- what a list of messages holds, if there is one
abbrev pub mail_in : Option (List Message) → Lookup
mail_in None = lookup []
mail_in (Some ms) = lookup ms

-- the mail of a chare
abbrev pub mail_at : List (List Message) → ℕ → Lookup
mail_at mails c = mail_in (slice_get mails c)

-- a chare's mail after messages were put, the last of the list first
abbrev pub mail_after : ℕ → Lookup → List Message → Lookup
mail_after c mail [] = mail
mail_after c mail (m ∷ ms) = if m.sent.to == c then with_message m (mail_after c mail ms) else mail_after c mail ms

-- each chare's mail is as it was, with the messages that go to the chare
pub record AreDelivered (old : List (List Message)) (ms : List Message) (new : List (List Message)) : Type 0 where
  pub count : length new ≡ length old
  pub mails : (c : ℕ) → c < length old → mail_at new c ≡ mail_after c (mail_at old c) ms

-- who got no message has the mail that it had
abbrev pub AreKept : List (List Message) → List ℕ → List (List Message) → Type 0
AreKept old heard new = HoldsBut heard (length old) (λ c. mail_at new c ≡ mail_at old c)

-- a mail has no message of this one's key, and it is no deeper than the limit
pub record CanPut (limit : ℕ) (m : Message) (mail : Lookup) : Type 0 where
  pub free : mail m.sent.key ≡ None
  pub low : m.origin.depth ≤ limit

-- no chare is sent a key twice, or again, and no message is deeper than the limit
pub record CanDeliver (limit : ℕ) (mails : List (List Message)) (ms : List Message) : Type 0 where
  pub apart : Apart one_key ms
  pub each : (m : Message) → Mem m ms → CanPut limit m (mail_at mails m.sent.to)

-- no message is deeper than the greatest limit
abbrev pub IsShallow : List Message → Type 0
IsShallow ms = (k : Key) (m : Message) → lookup ms k ≡ Some m → m.origin.depth ≤ 262144

abbrev pub AreShallow : List (List Message) → Type 0
AreShallow mails = (c : ℕ) (k : Key) (m : Message) → mail_at mails c k ≡ Some m → m.origin.depth ≤ 262144

abbrev pub history_at : Program → ℕ → List (List Message) → ℕ → Option History
history_at p limit mails c = Some (history p limit c (mail_at mails c))

-- each chare's history under its mail
pub record AreHistories (p : Program) (limit : ℕ) (mails : List (List Message)) (hs : List History) : Type 0 where
  pub count : length hs ≡ length mails
  pub each : (c : ℕ) → c < length mails → slice_get hs c ≡ history_at p limit mails c

-- no history is too long, nor are all together
pub record AreShort (p : Program) (limit : ℕ) (mails : List (List Message)) : Type 0 where
  pub each : (c : ℕ) → c < length mails → size (history p limit c (mail_at mails c)) ≤ limit
  pub together : (hs : List History) → AreHistories p limit mails hs → size_all hs ≤ limit

-- a size that is that of these histories, and at most the limit
pub record IsSize (limit : ℕ) (hs : List History) (size : ℕ) : Type 0 where
  pub is : size ≡ size_all hs
  pub most : size ≤ limit
