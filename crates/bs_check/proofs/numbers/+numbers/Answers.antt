use Rattle.std.proofs.Common.{Some, ℕ, set, Result, Ok, Err, IfOk, ◌≡◌, ◌+◌, ◌∙◌, ◌++◌, ◌∷◌, [], List, ap, sym, subst, drop, length, length-append, arith}
use Rattle.bs_check.specs.Every.{every, listed}
use Rattle.bs_check.proofs.Rows.{drop_item}
use Rattle.bs_check.proofs.Everything.{every_first, inside_if}
use Rattle.bs_check.proofs.Ends.{with_ends, ends_both, end_put}
use Rattle.bs_check.proofs.numbers.+numbers.Goals as goal

if_ok : {E : Type 0} (r : Result (Unit {0}) E) {P Q : Type 0} → IfOk r (λ _. P) → (P → Q) → IfOk r (λ _. Q)
if_ok (Ok u) h f = f h
if_ok (Err e) h f = tt

pub number_body-loop-stmt-preserved : goal.number_body-loop-stmt-preserved
number_body-loop-stmt-preserved t c =
    let items = c.as_slice-stmt-items.result.now in
    let i = c.loop-stmt.stmt-index in
    let x = c.stmt-item.result in
    let rest = drop (i + 1) items in
    let done = c.loop-stmt.ends.items in
    let left : every (drop i items) ≡ (x ∷ (listed x).inside) ++ every rest = ap every (drop_item items i x x c.loop-stmt-test.true c.stmt-item.is) ∙ every_first x rest in
    let both = ap length left in
    let long = length-append (x ∷ (listed x).inside) (every rest) in
    let more = c.in_ok-number_stmt.ensures.count in
    record {
      so_far = ends_both done c.number_stmt.new.ends.items (x ∷ (listed x).inside) (every rest) c.in_ok-number_stmt.ensures.ends ∙ ap (with_ends done) (sym left) ∙ c.loop-stmt.invariant.so_far;
      count = omega (arith, both, long, more, c.loop-stmt.invariant.count);
    }

pub number_inside-returns-in-Some-clause-ends : goal.number_inside-returns-in-Some-clause-ends
number_inside-returns-in-Some-clause-ends t c =
    let inside : (listed c.args.stmt.now).inside ≡ every c.in-If.body ++ every c.in-Some.other = rw (c.in-If.is, c.in-Some.is) (inside_if c.in-If.field-0 c.in-If.body (Some c.in-Some.other)) in
    let done = c.args.ends.now.items in
    let all = ends_both done c.number_body-in-If.new.ends.items (every c.in-If.body) (every c.in-Some.other) c.in_ok-number_body-in-If.ensures.ends ∙ ap (with_ends done) (sym inside) in
    if_ok c.number_body-in-Some.result c.number_body-in-Some.ensures.ends (λ h. h ∙ all)

pub number_stmt-returns-clause-ends : goal.number_stmt-returns-clause-ends
number_stmt-returns-clause-ends t c =
    let done = c.args.ends.now.items in
    let next = c.number_inside.new.ends.items in
    let s = c.args.stmt.now in
    let pushed : c.push.new.self.items ≡ done ++ 0 ∷ [] = c.in_ok-push.ensures.items in
    let inside : next ≡ with_ends (done ++ 0 ∷ []) (listed s).inside = subst (λ (before : List ℕ). next ≡ with_ends before (listed s).inside) pushed c.in_ok-number_inside.ensures.ends in
    let at : c.len-at.result ≡ length done = omega (arith, c.len-at.ensures, c.args.ends.now.ok.0) in
    c.put_end.ensures ∙ ap (λ i. set next i (length next + 1)) at ∙ end_put done next s inside
