-- A mail with maybe one message more.
use Rattle.std.specs.Prelude.{Option, Some, None}
use Rattle.bs_log.specs.declared.history.Message.{Message}
use Rattle.bs_match.specs.Mail.{with_message}
use Rattle.bs_semantics.specs.Run.{Lookup}

-- the message at its key, if there is one, and at each other key what there was
abbrev pub with_extra : Option Message → Lookup → Lookup
with_extra None mail = mail
with_extra (Some m) mail = with_message m mail
