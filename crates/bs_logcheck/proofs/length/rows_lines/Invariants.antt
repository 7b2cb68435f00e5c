use Rattle.std.proofs.Common.{◌≡◌, min, ◌^◌, ◌-◌, ◌+◌, ◌<◌, drop, sum_by}
use Rattle.bs_log.specs.Valid.{row_lines}
use Rattle.bs_logcheck.proofs.length.rows_lines.Given as goal

abbrev pub invariant-loop-row : goal.invariant-loop-row
invariant-loop-row l = record {
  fits : l.lines < 2 ^ 64;
  total : min (l.lines + sum_by row_lines (drop l.row-index l.rows)) (2 ^ 64 - 1) ≡ min (sum_by row_lines l.rows) (2 ^ 64 - 1);
}
