use Rattle.std.proofs.Common.{◌≡◌, ◌+◌, None, drop, sum_by}
use Rattle.bs_log.specs.Valid.{row_lines}
use Rattle.bs_logcheck.specs.Places.{has}
use Rattle.bs_logcheck.specs.Faults.{with_rows}
use Rattle.bs_logcheck.specs.Searched.{first_in_rows}
use Rattle.bs_logcheck.proofs.rows.first_in_rows.Given as goal

abbrev pub invariant-loop-place : goal.invariant-loop-place
invariant-loop-place l = record {
  at : l.line + sum_by row_lines (drop l.place l.log.rows) ≡ 3 + sum_by row_lines l.log.rows;
  rest : first_in_rows l.log (l.place + 1) l.before (has l.seen) l.line (drop l.place l.log.rows) ≡ first_in_rows l.log 1 None (has l.initial.seen) 3 l.log.rows;
  seen : with_rows (has l.seen) (drop l.place l.log.rows) ≡ with_rows (has l.initial.seen) l.log.rows;
}
