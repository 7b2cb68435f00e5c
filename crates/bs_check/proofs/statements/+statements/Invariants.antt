use Rattle.std.proofs.Common.{◌≡◌, ◌+◌, drop, length}
use Rattle.bs_check.specs.Every.{every}
use Rattle.bs_check.specs.Refusal.{first_broken}
use Rattle.bs_check.specs.Touches.{IsBehind, size}
use Rattle.bs_check.proofs.statements.+statements.Given as goal

abbrev pub invariant-check_body-loop-stmt : goal.invariant-check_body-loop-stmt
invariant-check_body-loop-stmt l = record {
  first : first_broken l.names.program l.number (every l.body) ≡ first_broken l.names.program l.next (every (drop l.stmt-index l.stmt-items));
  count : l.next + length (every (drop l.stmt-index l.stmt-items)) ≡ l.number + length (every l.body);
  behind : IsBehind l.touches l.next;
  same : size l.touches ≡ size l.fn.touches;
}
