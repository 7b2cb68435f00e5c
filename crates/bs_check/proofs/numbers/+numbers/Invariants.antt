use Rattle.std.proofs.Common.{◌≡◌, ◌+◌, ◌++◌, drop, length}
use Rattle.bs_check.specs.Every.{every}
use Rattle.bs_check.specs.Numbers.{ends_from}
use Rattle.bs_check.proofs.numbers.+numbers.Given as goal

abbrev pub invariant-number_body-loop-stmt : goal.invariant-number_body-loop-stmt
invariant-number_body-loop-stmt l = record {
  so_far : l.ends.items ++ ends_from (length l.ends.items + 1) (every (drop l.stmt-index l.stmt-items)) ≡ l.fn.ends.items ++ ends_from (length l.fn.ends.items + 1) (every l.body);
  count : length l.ends.items + length (every (drop l.stmt-index l.stmt-items)) ≡ length l.fn.ends.items + length (every l.body);
}
