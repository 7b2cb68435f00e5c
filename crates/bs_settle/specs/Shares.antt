-- What of a log falls to each processor (docs/model.md).
use Rattle.std.specs.Prelude.{◌≡◌, ◌≤◌, ◌<◌, ◌^◌, ◌==◌, ◌++◌, ℕ, Bool, List, length, Some, slice_get, drop, replicate}
use Rattle.bs_log.specs.declared.log.MailRef.{MailRef}
use Rattle.bs_log.specs.Lists.{Mem}
use Rattle.bs_num.specs.declared.ticks.Tick.{Tick}
use Rattle.bs_times.specs.Net.{Net, Starts, Ticks}
use Rattle.bs_times.specs.Times.{IsListed, IsOn, arrival}
use Rattle.bs_schedule.specs.Plan.{at}
use Rattle.bs_line.specs.declared.making.Estimate.{Estimate}
use Rattle.bs_line.specs.Making.{AreEstimates, kept, numbers}
use Rattle.bs_line.specs.Places.{AreMails, AreThose, mail_place}
use Rattle.bs_settle.specs.declared.field.Estimates.{Estimates}
use Rattle.bs_settle.specs.declared.field.Estimates.TheVariants as estimates
use Rattle.bs_settle.specs.declared.shares.Share.{Share}

-- one tick below 2^107 for each listed message
pub record AreEarly (net : Net) (ticks : List Tick) : Type 0 where
  pub each : AreEstimates net ticks
  pub early : (t : Tick) → Mem t ticks → t.0 < 2 ^ 107

abbrev pub CanBegin : Net → Estimates → Type 0
CanBegin net estimates.Zero = Unit {0}
CanBegin net (estimates.Given ticks) = AreEarly net ticks

-- the estimates of so many messages
abbrev pub ticks_by : Estimates → ℕ → List Tick
ticks_by estimates.Zero many = replicate many (record { 0 = 0 })
ticks_by (estimates.Given ticks) many = ticks

-- the estimate of a message, where the listed ones are these
abbrev pub estimate_of : Estimates → List MailRef → Ticks
estimate_of estimates.Zero mails m = 0
estimate_of (estimates.Given ticks) mails m = at (numbers ticks) (mail_place mails m)

-- a message's arrival, by the start of its sender
abbrev pub arriving : Net → Starts → MailRef → Tick
arriving net s m = record { 0 = arrival net s m }

abbrev pub to_test : Net → ℕ → MailRef → Bool
to_test net p m = net.goes_to m == p

abbrev pub from_test : Net → ℕ → MailRef → Bool
from_test net p m = net.home m.row == p

-- rows up to n, and messages before place k, as they fall to processor p
pub record IsShareOf (net : Net) (p n k : ℕ) (mails : List MailRef) (ticks : List Tick) (share : Share) : Type 0 where
  pub rows : AreThose (λ i. IsOn net p i × (i ≤ n)) share.rows
  pub comes : share.comes ++ kept (to_test net p) (drop k mails) (drop k ticks) ≡ kept (to_test net p) mails ticks
  pub goes : share.goes ++ kept (from_test net p) (drop k mails) (drop k ticks) ≡ kept (from_test net p) mails ticks

-- the shares of so many processors
pub record AreShares (net : Net) (many n k : ℕ) (mails : List MailRef) (ticks : List Tick) (shares : List Share) : Type 0 where
  pub many_of : length shares ≡ many
  pub each : (p : ℕ) (share : Share) → slice_get shares p ≡ Some share → IsShareOf net p n k mails ticks share

-- a share with more in it
pub record IsAdded (old new : Share) (rows : List ℕ) (comes goes : List Estimate) : Type 0 where
  pub rows_are : new.rows ≡ old.rows ++ rows
  pub comes_are : new.comes ≡ old.comes ++ comes
  pub goes_are : new.goes ≡ old.goes ++ goes

-- what each of the shares has more
pub record AreAdded (old new : List Share) (rows : ℕ → List ℕ) (comes goes : ℕ → List Estimate) : Type 0 where
  pub long : length new ≡ length old
  pub each : (p : ℕ) (b : Share) → slice_get new p ≡ Some b → (a : Share) × (slice_get old p ≡ Some a) × IsAdded a b (rows p) (comes p) (goes p)

-- the listed messages, and a tick below 2^107 for each of them
pub record AreTicksFor (net : Net) (mails : List MailRef) (ticks : List Tick) : Type 0 where
  pub listed : AreMails (IsListed net) mails
  pub each : length ticks ≡ length mails
  pub early : (t : Tick) → Mem t ticks → t.0 < 2 ^ 107

-- all shares of a log
pub record AreWhole (net : Net) (many : ℕ) (mails : List MailRef) (ticks : List Tick) (shares : List Share) : Type 0 where
  pub ticks_for : AreTicksFor net mails ticks
  pub shares_are : AreShares net many net.rows (length mails) mails ticks shares
