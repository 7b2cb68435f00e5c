-- A worked log: three chares on two processors (docs/model.md).
use Rattle.std.specs.Prelude.{◌+◌, ◌/◌, ◌%◌, ◌==◌, ℕ, pos, if◌then◌else◌, List, [], ◌∷◌}
use Rattle.bs_log.specs.declared.history.Sent.{Sent}
use Rattle.bs_log.specs.declared.log.MailRef.{MailRef}
use Rattle.bs_log.specs.declared.log.Row.{Row}
use Rattle.bs_log.specs.declared.log.Log.{Log}
use Rattle.bs_semantics.specs.Serial.{Machine}
use Rattle.bs_times.specs.Net.{Net, Starts, Ticks, net_of}

abbrev pub send : ℕ → ℕ → ℕ → ℕ → Sent
send to entry bytes offset = record { to = to; key = record { entry = entry; reference = pos 0 }; bytes = bytes; offset = offset }

abbrev pub message : ℕ → ℕ → MailRef
message row index = record { row = row; index = index }

abbrev pub block : ℕ → ℕ → ℕ → ℕ → List ℕ → List MailRef → List Sent → Row
block chare stmt depth cost after mail sends = record { chare = chare; stmt = stmt; depth = depth; cost = cost; after = after; mail = mail; emits = []; sends = sends }

-- chare 1 sends a long message to chare 0 and a short one to chare 2, each of which works for 10; chare 2 then sends
-- word to chare 1
abbrev pub log : Log
log = record {
  chares = 3;
  entries = 2;
  rows =
      block 0 6 2 10 [] (message 2 1 ∷ []) [] ∷
      block 1 2 1 2 [] [] (send 0 0 640 1 ∷ send 2 0 8 2 ∷ []) ∷
      block 1 4 3 1 (2 ∷ []) (message 4 1 ∷ []) [] ∷
      block 2 6 2 10 [] (message 2 2 ∷ []) (send 1 1 0 10 ∷ []) ∷ [];
  traps = [];
  waits = [];
}

-- two processors that take the chares in turn; from one to the other a message takes 5 ticks, and one more for each 64
-- bytes
abbrev pub machine : Machine
machine = record {
  home = λ chare. chare % 2;
  latency = λ from to bytes. if from == to then 1 else 5 + (bytes + 63) / 64;
  duration = λ cost. cost;
}

abbrev pub net : Net
net = net_of log machine

-- a start for each of the four rows
abbrev pub starts : ℕ → ℕ → ℕ → ℕ → Starts
starts a b c d i = if i == 1 then a else if i == 2 then b else if i == 3 then c else if i == 4 then d else 0

-- a tick for each of the three messages, 2 1, 2 2 and 4 1
abbrev pub ticks : ℕ → ℕ → ℕ → Ticks
ticks a b c m = if m.row == 4 then c else if m.index == 1 then a else b
