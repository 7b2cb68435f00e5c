use Rattle.std.proofs.Common.{◌+◌, drop, ap, sym, subst, arith}
use Rattle.bs_tree.specs.Count.{statements_in}
use Rattle.bs_check.specs.Numbers.{StandsAt}
use Rattle.bs_check.proofs.Standing.{end_found, is_number, rest_stands}
use Rattle.bs_history.specs.Ground.{program_of}
use Rattle.bs_history.proofs.Meanings.{statements_cons}
use Rattle.bs_history.proofs.Turns.{next_item}
use Rattle.bs_history.proofs.statements.number_behind.Goals as goal

pub after-next-requires : goal.after-next-requires
after-next-requires c =
    let p = program_of c.args.ground.now in
    let xs = c.as_slice-stmt-items.result.now in
    let i = c.loop-stmt._stmt-index in
    let x = c._stmt-item.result in
    let d = next_item xs i x c.loop-stmt-test.true c._stmt-item.is in
    is_number p c.loop-stmt.next x (drop (i + 1) xs) (subst (StandsAt p c.loop-stmt.next) d c.loop-stmt.invariant.stands)

pub loop-stmt-preserved : goal.loop-stmt-preserved
loop-stmt-preserved c =
    let p = program_of c.args.ground.now in
    let xs = c.as_slice-stmt-items.result.now in
    let i = c.loop-stmt._stmt-index in
    let x = c._stmt-item.result in
    let n = c.loop-stmt.next in
    let inv = c.loop-stmt.invariant in
    let d = next_item xs i x c.loop-stmt-test.true c._stmt-item.is in
    let stands = subst (StandsAt p n) d inv.stands in
    let value = end_found p n x (drop (i + 1) xs) stands c.after-next.result c.after-next.ensures in
    let cons = statements_cons x (drop (i + 1) xs) in
    let here = ap statements_in d in
    let left = inv.left in
    record {
      stands = subst (λ m. StandsAt p m (drop (i + 1) xs)) (sym value) (rest_stands p n x (drop (i + 1) xs) stands);
      left = omega (arith, value, cons, here, left);
    }
