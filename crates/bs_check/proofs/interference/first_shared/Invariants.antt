use Rattle.std.proofs.Common.{◌≡◌, drop}
use Rattle.bs_check.specs.Touches.{shared_from}
use Rattle.bs_check.proofs.interference.first_shared.Given as goal

abbrev pub invariant-loop-var : goal.invariant-loop-var
invariant-loop-var l = record {
  count : l.number ≡ l.var-index;
  rest : shared_from l.number (drop l.var-index l.vars) l.touches ≡ shared_from 0 l.vars l.touches;
}
