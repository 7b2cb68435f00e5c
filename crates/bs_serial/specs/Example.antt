-- The times of the program `exchange` on two processors (docs/model.md).
use Rattle.std.specs.Prelude.{◌%◌, ◌==◌, ℕ, ℤ, pos, if◌then◌else◌, List, [], ◌∷◌}
use Rattle.bs_log.specs.declared.history.Sent.{Sent}
use Rattle.bs_log.specs.declared.log.Row.{Row}
use Rattle.bs_log.specs.declared.log.Log.{Log}
use Rattle.bs_log.specs.declared.outcome.OutRow.{OutRow}
use Rattle.bs_log.specs.declared.outcome.Outcome.{Outcome}
use Rattle.bs_semantics.specs.Serial.{Machine}
use Rattle.bs_times.specs.Net.{Starts}

-- two processors that take the chares in turn; each message takes 5 ticks
abbrev pub machine : Machine
machine = record { home = λ chare. chare % 2; latency = λ from to bytes. 5; duration = λ cost. cost }

-- the message of a chare to the other one
abbrev pub message_to : ℕ → Sent
message_to other = record { to = other; key = record { entry = 0; reference = pos 7 }; bytes = 8; offset = 4 }

abbrev pub first_row : ℕ → ℕ → Row
first_row chare other = record { chare = chare; stmt = 1; depth = 1; cost = 4; after = []; mail = []; emits = []; sends = message_to other ∷ [] }

-- it rests on the chare's first row and on the message of the other chare's
abbrev pub second_row : ℕ → ℕ → ℕ → ℕ → Row
second_row chare other own others = record { chare = chare; stmt = 3; depth = 2; cost = 3; after = own ∷ []; mail = record { row = others; index = 1 } ∷ []; emits = pos other ∷ []; sends = [] }

abbrev pub log : Log
log = record { chares = 2; entries = 1; rows = first_row 0 1 ∷ second_row 0 1 1 3 ∷ first_row 1 0 ∷ second_row 1 0 3 1 ∷ []; traps = []; waits = [] }

-- the starts of the four rows
abbrev pub starts : Starts
starts i = if i == 2 then 9 else if i == 4 then 9 else 0

abbrev pub out : ℕ → ℕ → ℕ → ℕ → List ℤ → OutRow
out chare stmt start end values = record { chare = chare; stmt = stmt; processor = chare; start = start; end = end; values = values }

abbrev pub outcome : Outcome
outcome = record { rows = out 0 1 0 4 [] ∷ out 0 3 9 12 (pos 1 ∷ []) ∷ out 1 1 0 4 [] ∷ out 1 3 9 12 (pos 0 ∷ []) ∷ []; traps = []; waits = [] }
