use Rattle.std.proofs.Common.{◌≡◌, ◌+◌, drop, sum_by}
use Rattle.bs_log.specs.Valid.{row_lines}
use Rattle.bs_logcheck.proofs.rows.lines.Given as goal

abbrev pub invariant-loop-row : goal.invariant-loop-row
invariant-loop-row l = l.lines + sum_by row_lines (drop l.row-index l.rows) ≡ sum_by row_lines l.rows
