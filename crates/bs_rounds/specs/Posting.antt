-- What mails are like once messages were put into them.
use Rattle.std.specs.Prelude.{◌≡◌, ◌⊎◌, ℕ, Bool, true, false, if◌then◌else◌, List, [], ◌∷◌, ◌++◌, Some, None, Result, Ok, Err, get_or}
use Rattle.bs_log.specs.declared.history.Key.{Key}
use Rattle.bs_log.specs.declared.history.Message.{Message}
use Rattle.bs_log.specs.declared.history.History.{History}
use Rattle.bs_log.specs.Lists.{Mem}
use Rattle.bs_log.specs.Messages.{sends_of}
use Rattle.bs_match.specs.Mail.{lookup}
use Rattle.bs_semantics.specs.Run.{Lookup}
use Rattle.bs_rounds.specs.declared.stop.Stop.{Stop}
use Rattle.bs_rounds.specs.declared.stop.Stop.TheVariants.{Long, Twice, Memory}

-- the mail of each chare as a look-up
abbrev pub held : List (List Message) → ℕ → Lookup
held mails c = lookup (get_or mails c [])

-- whether a chare is marked
abbrev pub flag : List Bool → ℕ → Bool
flag marks c = get_or marks c false

-- what the marked of some histories send
abbrev pub sent_by : List Bool → List History → List Message
sent_by [] hs = []
sent_by (b ∷ bs) [] = []
sent_by (b ∷ bs) (h ∷ hs) = (if b then sends_of h.blocks else []) ++ sent_by bs hs

-- a message of a list goes to a chare with a key
pub record IsOneOf (ms : List Message) (c : ℕ) (k : Key) (m : Message) : Type 0 where
  pub member : Mem m ms
  pub to : m.sent.to ≡ c
  pub key : m.sent.key ≡ k

-- a message of the same place is held
pub record IsKnown (after : ℕ → Lookup) (m : Message) : Type 0 where
  pub message : Message
  pub is_held : after m.sent.to m.sent.key ≡ Some message
  pub origin : message.origin ≡ m.origin

-- a key that was not held is held
pub record HasNews (before after : Lookup) : Type 0 where
  pub key : Key
  pub message : Message
  pub was : before key ≡ None
  pub is : after key ≡ Some message

-- what was held is held, and what is held was so or is one of the messages; each of them is known; and a chare is marked
-- where it was before or where its mail has news
pub record ArePosted (ms : List Message) (before : ℕ → Lookup) (old : ℕ → Bool) (after : ℕ → Lookup) (new : ℕ → Bool) : Type 0 where
  pub stays : (c : ℕ) (k : Key) (m : Message) → before c k ≡ Some m → after c k ≡ Some m
  pub from : (c : ℕ) (k : Key) (m : Message) → after c k ≡ Some m → (before c k ≡ Some m) ⊎ IsOneOf ms c k m
  pub known : (m : Message) → Mem m ms → IsKnown after m
  pub marked : (c : ℕ) → old c ≡ true → new c ≡ true
  pub same : (c : ℕ) → new c ≡ false → before c ≡ after c
  pub news : (c : ℕ) → new c ≡ true → (old c ≡ true) ⊎ HasNews (before c) (after c)

-- one of the messages has the key of another one, from another place, that was held or is one of them
pub record Clash (ms : List Message) (before : ℕ → Lookup) : Type 0 where
  pub first : Message
  pub second : Message
  pub is_first : (before second.sent.to second.sent.key ≡ Some first) ⊎ IsOneOf ms second.sent.to second.sent.key first
  pub is_second : Mem second ms
  pub differ : first.origin ≡ second.origin → ⊥

-- the messages are put, or two clash
abbrev pub IsPosted : List Message → (ℕ → Lookup) → (ℕ → Bool) → Result (Unit {0}) Stop → (ℕ → Lookup) → (ℕ → Bool) → Type 0
IsPosted ms before old (Ok u) after new = ArePosted ms before old after new
IsPosted ms before old (Err Long) after new = ⊥
IsPosted ms before old (Err Twice) after new = Clash ms before
IsPosted ms before old (Err Memory) after new = Unit {0}
