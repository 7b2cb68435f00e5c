-- How great ticks become (docs/model.md).
use Rattle.std.specs.Prelude.{◌≡◌, ◌≤◌, ◌<◌, ◌+◌, ◌*◌, ◌^◌, ℕ}
use Rattle.bs_log.specs.declared.log.MailRef.{MailRef}
use Rattle.bs_log.specs.declared.outcome.OutRow.{OutRow}
use Rattle.bs_times.specs.Net.{Net, Ticks, HasRow}
use Rattle.bs_times.specs.Times.{IsListed}

-- there aren't too many rows, none is too deep, and no block and no listed message takes too long
pub record IsShort (net : Net) : Type 0 where
  pub rows : net.rows ≤ 262144
  pub depth : (i : ℕ) → HasRow net i → (1 ≤ net.depth i) × (net.depth i ≤ 262144)
  pub duration : (i : ℕ) → HasRow net i → net.duration i < 2 ^ 48
  pub travel : (m : MailRef) → IsListed net m → net.travel m < 2 ^ 49

-- a tick of the message is above `most` by at most 2^67 for each step of its sender's depth
abbrev pub Fits : Net → ℕ → MailRef → ℕ → Type 0
Fits net most m tick = tick ≤ most + net.depth m.row * 2 ^ 67

-- so it is for each listed message
abbrev pub AllFit : Net → ℕ → Ticks → Type 0
AllFit net most ticks = (m : MailRef) → IsListed net m → Fits net most m (ticks m)

-- so it is for each that goes to processor p
abbrev pub FitAt : Net → ℕ → ℕ → Ticks → Type 0
FitAt net p most ticks = (m : MailRef) → IsListed net m → net.goes_to m ≡ p → Fits net most m (ticks m)

-- a block of an outcome takes at least one tick and at most 2^48, and ends before tick 2^110
abbrev pub IsSmall : OutRow → Type 0
IsSmall row = (row.start < row.end) × (row.end ≤ row.start + 2 ^ 48) × (row.end < 2 ^ 110)
