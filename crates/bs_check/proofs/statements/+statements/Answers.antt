use Rattle.std.proofs.Common.{◌≡◌, ◌+◌, ◌∙◌, List, ◌∷◌, ◌++◌, Err, ap, sym, subst, drop, length, length-append, arith}
use Rattle.std.proofs.lemmas.Result.{err_from_is_err_and}
use Rattle.bs_tree.specs.declared.tree.Stmt.{Stmt}
use Rattle.bs_check.specs.Every.{every, listed}
use Rattle.bs_check.specs.Refusal.{first_broken}
use Rattle.bs_check.specs.Walked.{Kept, Walked}
use Rattle.bs_check.proofs.Rows.{drop_item}
use Rattle.bs_check.proofs.Everything.{every_first, every_else, inside_if, kept_then, walked_as, walked_first, walked_then}
use Rattle.bs_check.proofs.statements.+statements.Goals as goal

pub check_body-returns-in_err-next-clause-walked : goal.check_body-returns-in_err-next-clause-walked
check_body-returns-in_err-next-clause-walked t c =
    let given = err_from_is_err_and c.from_residual.result c.from_residual.ensures.1 in
    let p = c.args.names.now.program in
    let items = c.as_slice-stmt-items.result.now in
    let i = c.loop-stmt.stmt-index in
    let x = c.stmt-item.result in
    let rest = drop (i + 1) items in
    let left : every (drop i items) ≡ (x ∷ (listed x).inside) ++ every rest = ap every (drop_item items i x x c.loop-stmt-test.true c.stmt-item.is) ∙ every_first x rest in
    let found = walked_first p c.loop-stmt.next (x ∷ (listed x).inside) (every rest) c.in_err-next.field-0.0 c.in_err-next.ensures.walked in
    rw (given.1, given.2) (walked_as p c.args.number c.loop-stmt.next (every c.args.body.now) ((x ∷ (listed x).inside) ++ every rest) c.in_err-next.field-0.0 (c.loop-stmt.invariant.first ∙ ap (first_broken p c.loop-stmt.next) left) found)

pub check_body-loop-stmt-preserved : goal.check_body-loop-stmt-preserved
check_body-loop-stmt-preserved t c =
    let p = c.args.names.now.program in
    let items = c.as_slice-stmt-items.result.now in
    let i = c.loop-stmt.stmt-index in
    let x = c.stmt-item.result in
    let rest = drop (i + 1) items in
    let left : every (drop i items) ≡ (x ∷ (listed x).inside) ++ every rest = ap every (drop_item items i x x c.loop-stmt-test.true c.stmt-item.is) ∙ every_first x rest in
    let kept : Kept p c.loop-stmt.next (x ∷ (listed x).inside) c.in_ok-next.next = c.in_ok-next.ensures.walked in
    let long = length-append (x ∷ (listed x).inside) (every rest) in
    let both = ap length left in
    record {
      first = c.loop-stmt.invariant.first ∙ ap (first_broken p c.loop-stmt.next) left ∙ kept_then p c.loop-stmt.next c.in_ok-next.next (x ∷ (listed x).inside) (every rest) kept;
      count = omega (arith, long, both, kept.next, c.loop-stmt.invariant.count);
      behind = c.in_ok-next.ensures.behind;
      same = c.check_stmt.ensures.size ∙ c.loop-stmt.invariant.same;
    }

pub check_inside-returns-in_err-next-in-If-clause-walked : goal.check_inside-returns-in_err-next-in-If-clause-walked
check_inside-returns-in_err-next-in-If-clause-walked t c =
    let given = err_from_is_err_and c.from_residual.result c.from_residual.ensures.1 in
    let first = walked_first c.args.names.now.program c.args.number (every c.in-If.body) (every_else c.in-If.other) c.in_err-next-in-If.field-0.0 c.in_err-next-in-If.ensures.walked in
    let inside : (listed c.args.stmt.now).inside ≡ every c.in-If.body ++ every_else c.in-If.other = rw c.in-If.is (inside_if c.in-If.field-0 c.in-If.body c.in-If.other) in
    let found = subst (λ (xs : List Stmt). Walked c.args.names.now.program c.args.number xs (Err c.in_err-next-in-If.field-0.0)) (sym inside) first in
    rw (given.1, given.2) found

pub check_inside-returns-in-Some-clause-walked : goal.check_inside-returns-in-Some-clause-walked
check_inside-returns-in-Some-clause-walked t c =
    let all = walked_then c.args.names.now.program c.args.number c.in_ok-next-in-If.next (every c.in-If.body) (every c.in-Some.other) c.check_body-in-Some.result c.in_ok-next-in-If.ensures.walked c.check_body-in-Some.ensures.walked in
    rw (c.in-If.is, inside_if c.in-If.field-0 c.in-If.body c.in-If.other, c.in-Some.is) all
