use Rattle.std.proofs.Common.{◌≡◌, min, ◌^◌, ◌-◌, ◌+◌, ◌<◌, drop, sum_by}
use Rattle.bs_log.specs.ValidTest.{awaited_by}
use Rattle.bs_log.proofs.validity.times_awaited.Given as goal

abbrev pub invariant-loop-row : goal.invariant-loop-row
invariant-loop-row l = record {
  fits : l.times < 2 ^ 64;
  total : min (l.times + sum_by (awaited_by l.wait) (drop l.row-index l.rows)) (2 ^ 64 - 1) ≡ min (sum_by (awaited_by l.wait) l.rows) (2 ^ 64 - 1);
}
