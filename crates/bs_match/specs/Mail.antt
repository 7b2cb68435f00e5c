-- What a mail holds: messages in the order of their keys, no two of one key.
use Rattle.std.specs.Prelude.{List, [], ◌∷◌, Some, None, if◌then◌else◌, map}
use Rattle.std.specs.List.Sorted.{IsStrictlySortedBy}
use Rattle.bs_log.specs.declared.history.Message.{Message}
use Rattle.bs_log.specs.Messages.{key_cmp, same_key}
use Rattle.bs_semantics.specs.Run.{Lookup}

-- the keys of the messages rise
abbrev pub HasRisingKeys : List Message → Type 0
HasRisingKeys ms = IsStrictlySortedBy key_cmp (map (λ m. m.sent.key) ms)

-- the message of a key, if there is one
abbrev pub lookup : List Message → Lookup
lookup [] k = None
lookup (m ∷ ms) k = if same_key m.sent.key k then Some m else lookup ms k

-- a message at its key, and at each other key what there was
abbrev pub with_message : Message → Lookup → Lookup
with_message m mail k = if same_key m.sent.key k then Some m else mail k
