-- What waves come to that begin from given ticks (docs/model.md).
use Rattle.std.specs.Prelude.{◌≡◌, List, map}
use Rattle.bs_log.specs.declared.log.Log.{Log}
use Rattle.bs_log.specs.declared.log.MailRef.{MailRef}
use Rattle.bs_machine.specs.declared.fitted.Fitted.{Fitted}
use Rattle.bs_num.specs.declared.ticks.Tick.{Tick}
use Rattle.bs_line.specs.Places.{AreMails}
use Rattle.bs_rows.specs.Rows.{net_on}
use Rattle.bs_settle.specs.Settled.{SettlesAt}
use Rattle.bs_settle.specs.Timed.{AreTimes}
use Rattle.bs_times.specs.Machine.{machine_of}
use Rattle.bs_times.specs.Net.{Net, Starts, Ticks}
use Rattle.bs_times.specs.Times.{IsConsistent, IsListed, arrival}
use Rattle.bs_whatif.specs.declared.points.Point.{Point}

-- the tick of a message
abbrev pub tick_at : Ticks → MailRef → Tick
tick_at ticks m = record { 0 = ticks m }

-- these are the ticks of the listed messages, in the order of (row, index)
pub record AreTicksOf (net : Net) (ticks : Ticks) (list : List Tick) : Type 0 where
  pub mails : List MailRef
  pub listed : AreMails (IsListed net) mails
  pub are : list ≡ map (tick_at ticks) mails

-- the times of the log, the arrivals by its consistent table, and the number of the first wave from the ticks before that
-- changes none
pub record IsPoint (log : Log) (m : Fitted) (before : List Tick) (point : Point) : Type 0 where
  pub times : AreTimes log (machine_of m) point.times
  pub ticks : (s : Starts) → IsConsistent (net_on log m) s → AreTicksOf (net_on log m) (arrival (net_on log m) s) point.ticks
  pub waves : (estimates : Ticks) → AreTicksOf (net_on log m) estimates before → SettlesAt (net_on log m) estimates point.waves
