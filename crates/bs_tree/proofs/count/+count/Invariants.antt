use Rattle.std.proofs.Common.{◌≡◌, min, ◌^◌, ◌-◌, ◌+◌, ◌<◌, drop}
use Rattle.bs_tree.specs.Count.{statements_in}
use Rattle.bs_tree.proofs.count.+count.Given as goal

abbrev pub invariant-statements-loop-stmt : goal.invariant-statements-loop-stmt
invariant-statements-loop-stmt l = record {
  fits : l.count < 2 ^ 64;
  total : min (l.count + statements_in (drop l.stmt-index l.stmt-items)) (2 ^ 64 - 1) ≡ min (statements_in l.body) (2 ^ 64 - 1);
}
