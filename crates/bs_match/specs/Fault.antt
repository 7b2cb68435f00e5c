-- When a message isn't put into a mail.
use Rattle.std.specs.Prelude.{◌≡◌, List, None, IsSome}
use Rattle.bs_log.specs.declared.history.Message.{Message}
use Rattle.bs_match.specs.declared.mail.PutFault.{PutFault}
use Rattle.bs_match.specs.declared.mail.PutFault.TheVariants.{TwoSent, Memory}
use Rattle.bs_match.specs.Mail.{lookup}

-- the message comes back, and the fault is `TwoSent` where one of its key is held, and `Memory` where none is
abbrev pub IsFault : Message → List Message → PutFault → Type 0
IsFault m held (TwoSent back) = (back ≡ m) × IsSome (lookup held m.sent.key)
IsFault m held (Memory back) = (back ≡ m) × (lookup held m.sent.key ≡ None)
