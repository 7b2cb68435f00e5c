-- The ranges that a log's numbers have once each of its lines is read by itself (docs/log.md).
use Rattle.std.specs.Prelude.{◌≤◌, ◌^◌}
use Rattle.bs_log.specs.declared.history.Sent.{Sent}
use Rattle.bs_log.specs.declared.log.Row.{Row}
use Rattle.bs_log.specs.declared.log.TrapRow.{TrapRow}
use Rattle.bs_log.specs.declared.log.WaitRow.{WaitRow}
use Rattle.bs_log.specs.declared.log.Log.{Log}
use Rattle.bs_log.specs.Valid.{IsWord, IsFrom, IsStmt, RowIsInRange, lines_of}
use Rattle.bs_log.specs.Lists.{Mem}

pub record SendIsInRange (s : Sent) : Type 0 where
  pub reference : IsWord s.key.reference
  pub bytes : s.bytes ≤ 2 ^ 30
  pub offset : IsFrom 1 (2 ^ 32) s.offset

pub record WaitIsInRange (w : WaitRow) : Type 0 where
  pub stmt : IsStmt w.stmt
  pub reference : IsWord w.key.reference

-- each number by itself is in its range, and there are not too many lines; what the numbers refer to isn't asked
pub record IsInRange (l : Log) : Type 0 where
  pub chares : IsFrom 1 65536 l.chares
  pub entries : l.entries ≤ 1000
  pub lines : lines_of l ≤ 262144
  pub rows : (r : Row) → Mem r l.rows → RowIsInRange r
  pub sends : (r : Row) → Mem r l.rows → (s : Sent) → Mem s r.sends → SendIsInRange s
  pub traps : (t : TrapRow) → Mem t l.traps → IsStmt t.stmt
  pub waits : (w : WaitRow) → Mem w l.waits → WaitIsInRange w
