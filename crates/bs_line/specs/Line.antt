-- What a line holds, what it used and gave last, and what it answers (docs/model.md).
use Rattle.std.specs.Prelude.{◌≡◌, ◌≢◌, ◌<◌, ◌+◌, ◌⊎◌, ◌==◌, ◌^◌, ℕ, true, false, cond, List, [], ◌∷◌, ◌++◌, map, length, slice_index_or}
use Rattle.bs_log.specs.Rising.{IsLower}
use Rattle.bs_log.specs.Valid.{IsValid}
use Rattle.bs_log.specs.declared.log.MailRef.{MailRef}
use Rattle.bs_times.specs.Net.{Net, Starts, Ticks}
use Rattle.bs_times.specs.Times.{greatest}
use Rattle.bs_schedule.specs.Plan.{at}
use Rattle.bs_line.specs.declared.layout.Out.{Out}
use Rattle.bs_line.specs.declared.corrections.Correction.{Correction}
use Rattle.bs_line.specs.declared.line.Line.{Line}
use Rattle.bs_line.specs.declared.line.Differs.{Differs}
use Rattle.bs_line.specs.Places.{differing, mail_place}
use Rattle.bs_rows.specs.Rows.{net_on}
use Rattle.bs_line.specs.Layout.{ComesTo, IsLayout, number_on, sends_of}

-- the net of the line's log on its machine
abbrev pub net_at : Line → Net
net_at line = net_on line.log.now line.machine.now

-- ---- what a line says of its rows and messages

-- the start that the last recomputation gave to each of its rows
abbrev pub starts_of : Line → Starts
starts_of line i = at line.starts.items (number_on line.layout.rows i)

-- the tick that it holds for each message that comes to it
abbrev pub held_of : Line → Ticks
held_of line m = at line.held.items (mail_place line.layout.mails m)

-- the tick that its last recomputation used
abbrev pub used_of : Line → Ticks
used_of line m = at line.used.items (mail_place line.layout.mails m)

-- the tick that it gave last for each message that it sends
abbrev pub given_of : Line → Ticks
given_of line m = at line.given.items (mail_place (sends_of line.layout) m)

-- a line as its calls leave it
pub record IsReady (line : Line) : Type 0 where
  pub valid : IsValid line.log.now
  pub fitted : line.machine.now.chares ≡ line.log.now.chares
  pub layout : IsLayout (net_at line) line.processor line.layout
  pub held_length : length line.held.items ≡ length line.layout.mails
  pub used_length : length line.used.items ≡ length line.layout.mails
  pub given_length : length line.given.items ≡ length line.layout.outs
  pub starts_length : length line.starts.items ≡ length line.layout.rows + 1
  pub early : (i : ℕ) → at line.held.items i < 2 ^ 110
  pub changed : line.changed ≡ differing line.held.items line.used.items

-- the log, the machine, the processor and the layout are as before
pub record IsSameLine (old new : Line) : Type 0 where
  pub log : new.log ≡ old.log
  pub machine : new.machine ≡ old.machine
  pub processor : new.processor ≡ old.processor
  pub layout : new.layout ≡ old.layout

-- a message that comes to the line and is held at another tick than the one used last
abbrev pub IsMoved : Line → MailRef → Type 0
IsMoved line m = ComesTo (net_at line) line.processor m × (held_of line m ≢ used_of line m)

-- it was never recomputed, or holds a tick other than the one that its last recomputation used
abbrev pub IsDirtyLine : Line → Type 0
IsDirtyLine line = (line.begun ≡ false) ⊎ ((m : MailRef) × IsMoved line m)

-- the line was recomputed, and this is the least message whose tick isn't the one used last, with the tick used and the
-- tick held
pub record IsLeastMoved (line : Line) (d : Differs) : Type 0 where
  pub begun : line.begun ≡ true
  pub moved : IsMoved line d.mail
  pub kept : d.kept.0 ≡ used_of line d.mail
  pub due : d.due.0 ≡ held_of line d.mail
  pub least : (m : MailRef) → IsMoved line m → (m ≡ d.mail) ⊎ IsLower d.mail m

-- ---- recomputation

-- for each row of the line the greatest of the ticks at the places of its messages
abbrev pub base_of : List (List ℕ) → List ℕ → List ℕ
base_of slots held = map (λ places. greatest (map (at held) places)) slots

-- places below n
abbrev pub SlotsFit : List ℕ → ℕ → Type 0
SlotsFit places n = (i d : ℕ) → i < length places → slice_index_or places i d < n

-- messages of rows with numbers below n
abbrev pub OutsFit : List Out → ℕ → Type 0
OutsFit outs n = (i : ℕ) (d : Out) → i < length outs → (slice_index_or outs i d).row < n

-- when a message arrives, where starts are by numbers on the line
abbrev pub arrive : Starts → Out → ℕ
arrive s out = s out.row + out.travel

abbrev pub correction_of : MailRef → ℕ → ℕ → ℕ → List Correction
correction_of m to was tick = cond (was == tick) [] (record { mail = m; to = to; was = record { 0 = was }; tick = record { 0 = tick } } ∷ [])

-- a correction for each of the messages whose tick isn't the one given before, in their order
abbrev pub changes : Net → Ticks → Ticks → List MailRef → List Correction
changes net was tick [] = []
changes net was tick (m ∷ ms) = correction_of m (net.goes_to m) (was m) (tick m) ++ changes net was tick ms

-- a correction of a message whose tick changed
pub record Corrects (net : Net) (was tick : Ticks) (c : Correction) : Type 0 where
  pub changed : was c.mail ≢ tick c.mail
  pub goes : c.to ≡ net.goes_to c.mail
  pub before : c.was.0 ≡ was c.mail
  pub after : c.tick.0 ≡ tick c.mail

-- the same by places
abbrev pub corrections_of : List Out → List ℕ → List ℕ → List Correction
corrections_of [] given ticks = []
corrections_of (o ∷ outs) [] ticks = []
corrections_of (o ∷ outs) (g ∷ given) [] = []
corrections_of (o ∷ outs) (g ∷ given) (t ∷ ticks) = correction_of o.mail o.to g t ++ corrections_of outs given ticks
