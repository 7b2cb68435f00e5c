-- What is known of a log while its lines are read.
use Rattle.std.specs.Prelude.{List, [], ◌∷◌, ◌++◌, Option, Some, None, option_map}
use Rattle.bs_log.specs.declared.log.Row.{Row}
use Rattle.bs_log.specs.declared.log.Log.{Log}
use Rattle.bs_logread.specs.declared.lines.Line.{Line}
use Rattle.bs_logread.specs.declared.lines.Line.TheVariants as l
use Rattle.bs_logread.specs.declared.draft.Draft.{Draft}
use Rattle.bs_logread.specs.Line.{bare}

-- the row whose lines are being read, as the last one
abbrev pub last_row : Option Row → List Row
last_row None = []
last_row (Some r) = r ∷ []

abbrev pub with_after : Row → Line → Row
with_after r (l.After row) = record r { after = r.after ++ row ∷ [] }
with_after r (l.Mail m) = record r { mail = r.mail ++ m ∷ [] }
with_after r (l.Emit v) = record r { emits = r.emits ++ v ∷ [] }
with_after r (l.Send s) = record r { sends = r.sends ++ s ∷ [] }
with_after r l.Version = r
with_after r (l.Counts c) = r
with_after r (l.Row h) = r
with_after r (l.Trap t) = r
with_after r (l.Wait w) = r
with_after r l.End = r

-- a line that the open row takes
abbrev pub in_row : Draft → Line → Draft
in_row d x = record d { current = option_map (λ r. with_after r x) d.current }

-- the draft with one more line
abbrev pub taken : Draft → Line → Draft
taken d l.Version = d
taken d (l.Counts c) = record d { chares = c.chares; entries = c.entries }
taken d (l.Row h) = record d { rows = d.rows ++ last_row d.current; current = Some (bare h) }
taken d (l.After row) = in_row d (l.After row)
taken d (l.Mail m) = in_row d (l.Mail m)
taken d (l.Emit v) = in_row d (l.Emit v)
taken d (l.Send s) = in_row d (l.Send s)
taken d (l.Trap t) = record d { traps = d.traps ++ t ∷ [] }
taken d (l.Wait w) = record d { waits = d.waits ++ w ∷ [] }
taken d l.End = d

-- before the first line
abbrev pub empty : Draft
empty = record { chares = 0; entries = 0; rows = []; current = None; traps = []; waits = [] }

-- the log of a draft
abbrev pub log_of : Draft → Log
log_of d = record { chares = d.chares; entries = d.entries; rows = d.rows ++ last_row d.current; traps = d.traps; waits = d.waits }
