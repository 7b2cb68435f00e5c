-- The lines of all processors of a log (docs/model.md).
use Rattle.std.specs.Prelude.{◌≡◌, ◌<◌, ◌^◌, ℕ}
use Rattle.bs_log.specs.declared.log.MailRef.{MailRef}
use Rattle.bs_log.specs.Valid.{IsValid}
use Rattle.bs_times.specs.Net.{Net, Starts, Ticks}
use Rattle.bs_times.specs.Times.{IsListed}
use Rattle.bs_times.specs.Racing.{World}
use Rattle.bs_times.specs.Bounds.{AllFit}
use Rattle.bs_settle.specs.declared.field.Field.{Field}
use Rattle.bs_rows.specs.Rows.{net_on}
use Rattle.bs_settle.specs.Lines.{AreLines, given_in, held_in, starts_in, world_in}

-- the net of the field's log on its machine
abbrev pub net_in : Field → Net
net_in field = net_on field.log.now field.machine.now

-- the ticks of its messages: those that the lines hold to which they go
abbrev pub ticks_of : Field → Ticks
ticks_of field = held_in (net_in field) field.places.items field.lines.items

-- and those that the lines gave last from which they come
abbrev pub given_of : Field → Ticks
given_of field = given_in (net_in field) field.places.items field.lines.items

-- the starts of its rows, as their lines were last recomputed
abbrev pub starts_of : Field → Starts
starts_of field = starts_in (net_in field) field.places.items field.lines.items

-- with the ticks that were used last, and the lines that were recomputed
abbrev pub world_of : Field → World
world_of field = world_in (net_in field) field.places.items field.lines.items

abbrev pub AreFieldLines : Field → Type 0
AreFieldLines field = AreLines (net_in field) field.places.items field.lines.items

-- the log, the machine and the places of the lines are as before
pub record IsSameField (old new : Field) : Type 0 where
  pub log : new.log ≡ old.log
  pub machine : new.machine ≡ old.machine
  pub places : new.places ≡ old.places

-- the log is valid, the machine was fitted to it, and all that is given is held
pub record IsField (field : Field) : Type 0 where
  pub valid : IsValid field.log.now
  pub fitted : field.machine.now.chares ≡ field.log.now.chares
  pub lines : AreFieldLines field
  pub as_given : (m : MailRef) → IsListed (net_in field) m → ticks_of field m ≡ given_of field m
  pub most : ℕ
  pub below : most < 2 ^ 107
  pub fits : AllFit (net_in field) most (ticks_of field)

-- ticks that aren't above the same bounds
abbrev pub FitsAsBefore : Net → Ticks → Ticks → Type 0
FitsAsBefore net old new = (most : ℕ) → AllFit net most old → AllFit net most new
