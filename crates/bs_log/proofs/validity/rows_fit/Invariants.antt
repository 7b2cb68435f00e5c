use Rattle.std.proofs.Common.{◌≡◌, ◌+◌, drop}
use Rattle.bs_log.specs.ValidTest.{rows_fit}
use Rattle.bs_log.proofs.validity.rows_fit.Given as goal

abbrev pub invariant-loop-place : goal.invariant-loop-place
invariant-loop-place l = rows_fit l.log (l.place + 1) (drop l.place l.log.rows) ≡ rows_fit l.log 1 l.log.rows
