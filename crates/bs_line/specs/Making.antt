-- What a line is made of: rows, and messages with the ticks at which they are thought to arrive.
use Rattle.std.specs.Prelude.{◌≡◌, ℕ, Bool, if◌then◌else◌, List, [], ◌∷◌, map, length}
use Rattle.bs_log.specs.declared.log.MailRef.{MailRef}
use Rattle.bs_log.specs.declared.log.Log.{Log}
use Rattle.bs_num.specs.declared.ticks.Tick.{Tick}
use Rattle.bs_times.specs.Net.{Net, row_of}
use Rattle.bs_times.specs.Times.{IsListed, IsOn}
use Rattle.bs_line.specs.declared.making.Estimate.{Estimate}
use Rattle.bs_line.specs.Layout.{ComesTo, GoesFrom}
use Rattle.bs_line.specs.Places.{AreMails, AreThose, mail_place}

abbrev pub mails_of : List Estimate → List MailRef
mails_of es = map (λ e. e.mail) es

abbrev pub ticks_of : List Estimate → List ℕ
ticks_of es = map (λ e. e.tick.0) es

abbrev pub numbers : List Tick → List ℕ
numbers ticks = map (λ tick. tick.0) ticks

-- these are the rows of some processor
pub record AreRowsOn (net : Net) (rows : List ℕ) : Type 0 where
  pub processor : ℕ
  pub those : AreThose (IsOn net processor) rows

-- and these the listed messages that come to it
pub record AreComing (net : Net) (rows : List ℕ) (mails : List MailRef) : Type 0 where
  pub processor : ℕ
  pub those : AreThose (IsOn net processor) rows
  pub comes : AreMails (ComesTo net processor) mails

-- or those that it sends
pub record AreGoing (net : Net) (rows : List ℕ) (mails : List MailRef) : Type 0 where
  pub processor : ℕ
  pub those : AreThose (IsOn net processor) rows
  pub goes : AreMails (GoesFrom net processor) mails

-- the places of a row's messages among these
abbrev pub places_of : Log → List MailRef → ℕ → List ℕ
places_of log mails i = map (mail_place mails) (row_of log i).mail

-- those of the messages that pass the test, with their ticks
abbrev pub kept : (MailRef → Bool) → List MailRef → List Tick → List Estimate
kept test [] ticks = []
kept test (m ∷ ms) [] = []
kept test (m ∷ ms) (t ∷ ticks) = if test m then record { mail = m; tick = t } ∷ kept test ms ticks else kept test ms ticks

-- one message with its tick, or none
abbrev pub kept_one : Bool → MailRef → Tick → List Estimate
kept_one b m t = if b then record { mail = m; tick = t } ∷ [] else []

-- a tick for each listed message, in the order of (row, place of the send)
pub record AreEstimates (net : Net) (ticks : List Tick) : Type 0 where
  pub mails : List MailRef
  pub listed : AreMails (IsListed net) mails
  pub each : length ticks ≡ length mails
