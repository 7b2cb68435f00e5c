-- How the lines of a log are made (docs/model.md).
use Rattle.std.specs.Prelude.{◌≡◌, ◌<◌, ◌⊎◌, ◌++◌, ◌^◌, ℕ, false, List, [], ◌∷◌, Some, length, slice_get}
use Rattle.bs_log.specs.declared.log.MailRef.{MailRef}
use Rattle.bs_log.specs.Lists.{Mem}
use Rattle.bs_num.specs.declared.ticks.Tick.{Tick}
use Rattle.bs_times.specs.Net.{Net}
use Rattle.bs_times.specs.Times.{HasLine, IsOn}
use Rattle.bs_schedule.specs.Plan.{at}
use Rattle.bs_line.specs.declared.making.Estimate.{Estimate}
use Rattle.bs_line.specs.declared.line.Line.{Line}
use Rattle.bs_line.specs.Layout.{ComesTo, GoesFrom, sends_of}
use Rattle.bs_line.specs.Line.{IsReady, given_of, held_of, net_at}
use Rattle.bs_line.specs.Making.{mails_of, numbers, ticks_of}
use Rattle.bs_line.specs.Places.{AreMails, AreThose, mail_place}
use Rattle.bs_settle.specs.declared.field.Field.{Field}
use Rattle.bs_settle.specs.declared.shares.Share.{Share}
use Rattle.bs_settle.specs.Lines.{IsLineOf}

-- all that falls to processor p
pub record IsWholeShare (net : Net) (p : ℕ) (share : Share) : Type 0 where
  pub rows : AreThose (IsOn net p) share.rows
  pub comes : AreMails (ComesTo net p) (mails_of share.comes)
  pub goes : AreMails (GoesFrom net p) (mails_of share.goes)
  pub early : (e : Estimate) → Mem e share.comes → e.tick.0 < 2 ^ 110

-- the line of a share, as it is made
pub record IsMade (net : Net) (p : ℕ) (share : Share) (line : Line) : Type 0 where
  pub ready : IsReady line
  pub same : net_at line ≡ net
  pub processor : line.processor ≡ p
  pub mails : line.layout.mails ≡ mails_of share.comes
  pub sends : sends_of line.layout ≡ mails_of share.goes
  pub held : line.held.items ≡ ticks_of share.comes
  pub given : line.given.items ≡ ticks_of share.goes
  pub begun : line.begun ≡ false

-- the line of processor p is added, if it has rows
pub record AddsLine (net : Net) (p : ℕ) (share : Share) (old new : Field) : Type 0 where
  pub places : new.places.items ≡ old.places.items ++ length old.lines.items ∷ []
  pub line : ((share.rows ≡ []) × (new.lines.items ≡ old.lines.items)) ⊎ ((line : Line) × (new.lines.items ≡ old.lines.items ++ line ∷ []) × IsMade net p share line × HasLine net p)

-- a line that holds and gave these ticks, and was never recomputed
pub record IsNew (net : Net) (mails : List MailRef) (ticks : List Tick) (line : Line) : Type 0 where
  pub is : IsLineOf net line
  pub begun : line.begun ≡ false
  pub held : (m : MailRef) → ComesTo net line.processor m → held_of line m ≡ at (numbers ticks) (mail_place mails m)
  pub given : (m : MailRef) → GoesFrom net line.processor m → given_of line m ≡ at (numbers ticks) (mail_place mails m)

-- the lines of the first n processors
pub record AreLinesTo (net : Net) (mails : List MailRef) (ticks : List Tick) (n : ℕ) (places : List ℕ) (lines : List Line) : Type 0 where
  pub long : length places ≡ n
  pub each : (k : ℕ) (line : Line) → slice_get lines k ≡ Some line → IsNew net mails ticks line × (at places line.processor ≡ k) × (line.processor < n)
  pub within : (p : ℕ) → p < n → HasLine net p → at places p < length lines
  pub there : (p : ℕ) → p < n → HasLine net p → (line : Line) → slice_get lines (at places p) ≡ Some line → line.processor ≡ p
