use Rattle.std.proofs.Common.{◌≡◌}
use Rattle.bs_settle.specs.Field.{starts_of}
use Rattle.bs_settle.specs.Planned.{by_row}
use Rattle.bs_settle.proofs.field.Field.starts.Given as goal

abbrev pub invariant-loop-place : goal.invariant-loop-place
invariant-loop-place l = l.starts.items ≡ by_row 0 (starts_of l.self) l.place
