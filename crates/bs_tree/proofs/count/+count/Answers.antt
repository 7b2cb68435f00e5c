use Rattle.std.proofs.Common.{arith}
use Rattle.std.proofs.lemmas.List.{at_drop_all}
use Rattle.bs_tree.specs.Count.{statements_in}
use Rattle.bs_tree.proofs.count.+count.Goals as goal

pub statements-returns : goal.statements-returns
statements-returns t c =
    let none = at_drop_all statements_in c.as_slice-stmt-items.result.now c.loop-stmt.stmt-index c.loop-stmt-test.false in
    omega (arith, none)
