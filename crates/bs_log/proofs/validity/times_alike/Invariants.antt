use Rattle.std.proofs.Common.{◌≡◌, min, ◌^◌, ◌-◌, ◌+◌, ◌<◌, drop, sum_by}
use Rattle.bs_log.specs.ValidTest.{alike_by}
use Rattle.bs_log.proofs.validity.times_alike.Given as goal

abbrev pub invariant-loop-row : goal.invariant-loop-row
invariant-loop-row l = record {
  fits : l.times < 2 ^ 64;
  total : min (l.times + sum_by (alike_by l.sent) (drop l.row-index l.rows)) (2 ^ 64 - 1) ≡ min (sum_by (alike_by l.sent) l.rows) (2 ^ 64 - 1);
}
