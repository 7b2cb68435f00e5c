-- A log in which the rows of one statement cost a fraction of what they did (docs/model.md).
use Rattle.std.specs.Prelude.{◌≤◌, ◌↔◌, ◌*◌, ◌^◌, ◌==◌, ℕ, Bool, if◌then◌else◌, map}
use Rattle.std.specs.Int.{div_ceil}
use Rattle.bs_log.specs.declared.history.Sent.{Sent}
use Rattle.bs_log.specs.declared.log.Log.{Log}
use Rattle.bs_log.specs.declared.log.MailRef.{MailRef}
use Rattle.bs_log.specs.declared.log.Row.{Row}
use Rattle.bs_log.specs.Lists.{Mem}
use Rattle.bs_times.specs.Net.{Net}
use Rattle.bs_times.specs.Times.{IsListed}

-- a fraction from above 0 to 1, of numbers up to 65,535
pub record IsFraction (num den : ℕ) : Type 0 where
  pub some : 1 ≤ num
  pub up_to_one : num ≤ den
  pub most : den ≤ 65535

-- no cost and no offset of the row is above 2^32
pub record IsCheap (r : Row) : Type 0 where
  pub cost : r.cost ≤ 2 ^ 32
  pub offsets : (s : Sent) → Mem s r.sends → s.offset ≤ 2 ^ 32

-- the fraction of a cost, rounded up
abbrev pub scaled : (num den cost : ℕ) → ℕ
scaled num den cost = div_ceil (cost * num) den

-- the same where it is wanted, and otherwise the cost itself
abbrev pub scaled_if : Bool → (num den cost : ℕ) → ℕ
scaled_if is num den cost = if is then scaled num den cost else cost

-- a send with its offset
abbrev pub rescaled_send : Bool → (num den : ℕ) → Sent → Sent
rescaled_send is num den s = record s { offset = scaled_if is num den s.offset }

-- a row with its cost and its offsets, where it is one of the statement
abbrev pub rescaled_row : (stmt num den : ℕ) → Row → Row
rescaled_row stmt num den r = record r {
  cost = scaled_if (r.stmt == stmt) num den r.cost;
  sends = map (rescaled_send (r.stmt == stmt) num den) r.sends;
}

-- a log with all of its rows
abbrev pub rescaled : Log → (stmt num den : ℕ) → Log
rescaled log stmt num den = record log { rows = map (rescaled_row stmt num den) log.rows }

-- both nets list the same messages
abbrev pub SameMessages : Net → Net → Type 0
SameMessages net other = (m : MailRef) → IsListed net m ↔ IsListed other m
