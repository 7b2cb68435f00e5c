use Rattle.std.proofs.Common.{◌≡◌, ◌+◌, drop}
use Rattle.bs_tree.specs.Count.{statements_in}
use Rattle.bs_check.specs.Numbers.{StandsAt}
use Rattle.bs_history.specs.Ground.{program_of}
use Rattle.bs_history.proofs.statements.number_behind.Given as goal

abbrev pub invariant-loop-stmt : goal.invariant-loop-stmt
invariant-loop-stmt l = record {
  stands : StandsAt (program_of l.ground) l.next (drop l._stmt-index l._stmt-items);
  left : l.next + statements_in (drop l._stmt-index l._stmt-items) ≡ l.fn.number + statements_in l.fn.body;
}
