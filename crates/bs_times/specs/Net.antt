-- What the times of a log depend on: its rows with their causes, and how long each block and each message takes
-- (docs/model.md). Rows are numbered from 1, and so are the sends of a row.
use Rattle.std.specs.Prelude.{◌≡◌, ◌≤◌, ◌<◌, ◌+◌, ℕ, pos, List, [], length, unwrap_or}
use Rattle.bs_log.specs.declared.history.Sent.{Sent}
use Rattle.bs_log.specs.declared.log.MailRef.{MailRef}
use Rattle.bs_log.specs.declared.log.Row.{Row}
use Rattle.bs_log.specs.declared.log.Log.{Log}
use Rattle.bs_log.specs.Valid.{numbered}
use Rattle.bs_log.specs.Lists.{Mem}
use Rattle.bs_semantics.specs.Serial.{Machine}

-- a tick for each row, and a tick for each message
abbrev pub Starts : Type 0
Starts = ℕ → ℕ

abbrev pub Ticks : Type 0
Ticks = MailRef → ℕ

pub record Net : Type 0 where
  pub rows : ℕ  -- how many there are
  pub home : ℕ → ℕ  -- the row's processor
  pub duration : ℕ → ℕ  -- the ticks that the row's block takes
  pub depth : ℕ → ℕ
  pub after : ℕ → List ℕ  -- the row's block causes
  pub mail : ℕ → List MailRef  -- the row's message causes
  pub goes_to : MailRef → ℕ  -- the processor that the message goes to
  pub travel : MailRef → ℕ  -- the ticks from its sender's start to its arrival

abbrev pub HasRow : Net → ℕ → Type 0
HasRow net i = (1 ≤ i) × (i ≤ net.rows)

-- every cause is a row that is less deep, and at least one tick passes from its start to what it causes; a block cause
-- is a row of the same processor, and a message cause goes to the processor of its row
pub record Causal (net : Net) : Type 0 where
  pub duration : (i : ℕ) → HasRow net i → 1 ≤ net.duration i
  pub travel : (i : ℕ) (m : MailRef) → HasRow net i → Mem m (net.mail i) → 1 ≤ net.travel m
  pub after : (i x : ℕ) → HasRow net i → Mem x (net.after i) → HasRow net x × (net.home x ≡ net.home i) × (net.depth x < net.depth i)
  pub mail : (i : ℕ) (m : MailRef) → HasRow net i → Mem m (net.mail i) → HasRow net m.row × (net.depth m.row < net.depth i) × (net.goes_to m ≡ net.home i)

-- ---- the net of a log on a machine

-- what stands for a row, and for a send, that isn't there
abbrev pub no_row : Row
no_row = record { chare = 0; stmt = 0; depth = 0; cost = 0; after = []; mail = []; emits = []; sends = [] }

abbrev pub no_send : Sent
no_send = record { to = 0; key = record { entry = 0; reference = pos 0 }; bytes = 0; offset = 0 }

-- the row of a number, and the send that a message cause names
abbrev pub row_of : Log → ℕ → Row
row_of log i = unwrap_or (numbered log.rows i) no_row

abbrev pub sent_of : Log → MailRef → Sent
sent_of log m = unwrap_or (numbered (row_of log m.row).sends m.index) no_send

-- the duration of the offset, and the latency
abbrev pub travel_of : Log → Machine → MailRef → ℕ
travel_of log machine m = machine.duration (sent_of log m).offset + machine.latency (machine.home (row_of log m.row).chare) (machine.home (sent_of log m).to) (sent_of log m).bytes

abbrev pub net_of : Log → Machine → Net
net_of log machine = record {
  rows = length log.rows;
  home = λ i. machine.home (row_of log i).chare;
  duration = λ i. machine.duration (row_of log i).cost;
  depth = λ i. (row_of log i).depth;
  after = λ i. (row_of log i).after;
  mail = λ i. (row_of log i).mail;
  goes_to = λ m. machine.home (sent_of log m).to;
  travel = travel_of log machine;
}
