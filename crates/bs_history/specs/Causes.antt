-- How causes are kept.
use Rattle.std.specs.Prelude.{map, reverse}
use Rattle.bs_semantics.specs.Run.{Cause as PlainCause, Causes as PlainCauses}
use Rattle.bs_history.specs.declared.causes.Cause.{Cause}
use Rattle.bs_history.specs.declared.causes.Causes.TheInside.{Inside}

abbrev pub cause_of : Cause → PlainCause
cause_of c = record { path = c.path.0; depth = c.depth }

-- the sets, the greatest item of each first
abbrev pub causes_of : Inside → PlainCauses
causes_of k = record { after = map cause_of (reverse k.after.items); mail = reverse k.mail.items }
