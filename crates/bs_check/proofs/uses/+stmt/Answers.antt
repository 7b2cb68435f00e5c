use Rattle.bs_tree.specs.Reads.{stmt_reads, stmt_writes}
use Rattle.bs_check.proofs.Rows.{left_item, left_end, noted_none, noted_as, noted_then, then_reads, then_writes}
use Rattle.bs_check.proofs.Unrolled.{stmt_reads_when, stmt_writes_when, stmt_reads_for, stmt_writes_for, stmt_reads_while, stmt_writes_while, stmt_reads_if_else, stmt_writes_if_else, stmt_reads_if_only, stmt_writes_if_only}
use Rattle.bs_check.proofs.uses.+stmt.Goals as goal

pub note_body-loop-stmt-preserved : goal.note_body-loop-stmt-preserved
note_body-loop-stmt-preserved t c = left_item stmt_reads stmt_writes _ _ _ c.as_slice-stmt-items.result.now c.loop-stmt.stmt-index _ _ _ _ c.loop-stmt-test.true c.stmt-item.is c.loop-stmt.invariant c.note_stmt.ensures

pub note_body-returns : goal.note_body-returns
note_body-returns t c =
    left_end stmt_reads stmt_writes _ _ c.as_slice-stmt-items.result.now c.loop-stmt.stmt-index _ _ c.loop-stmt-test.false c.loop-stmt.invariant

pub note_stmt-returns-in-When : goal.note_stmt-returns-in-When
note_stmt-returns-in-When t c =
    let all = noted_then _ _ _ _ _ _ _ (c.note_waits.ensures) c.note_body.ensures in
    rw c.in-When.is (noted_as _ _ _ _ _ _ all (λ n. stmt_reads_when n _ _) (λ n. stmt_writes_when n _ _))

pub note_stmt-returns-in-For : goal.note_stmt-returns-in-For
note_stmt-returns-in-For t c =
    let all = noted_then _ _ _ _ _ _ _ (then_writes _ _ _ _ _ _ (then_writes _ _ _ _ _ _ (then_reads _ _ _ _ _ _ (then_reads _ _ _ _ _ _ (c.note_expr.ensures) c.note_expr-in-For.ensures) c.note_expr-in-For-2.ensures) c.write.ensures) c.write-in-For.ensures) c.note_body-in-For.ensures in
    rw c.in-For.is (noted_as _ _ _ _ _ _ all (λ n. stmt_reads_for n _ _ _ _ _ _) (λ n. stmt_writes_for n _ _ _ _ _ _))

pub note_stmt-returns-in-While : goal.note_stmt-returns-in-While
note_stmt-returns-in-While t c =
    let all = noted_then _ _ _ _ _ _ _ (c.note_expr-in-While.ensures) c.note_body-in-While.ensures in
    rw c.in-While.is (noted_as _ _ _ _ _ _ all (λ n. stmt_reads_while n _ _) (λ n. stmt_writes_while n _ _))

pub note_stmt-returns-in-Some : goal.note_stmt-returns-in-Some
note_stmt-returns-in-Some t c =
    let all = noted_then _ _ _ _ _ _ _ (noted_then _ _ _ _ _ _ _ (c.note_expr-in-If.ensures) c.note_body-in-If.ensures) c.note_body-in-Some.ensures in
    rw (c.in-If.is, c.in-Some.is) (noted_as _ _ _ _ _ _ all (λ n. stmt_reads_if_else n _ _ _) (λ n. stmt_writes_if_else n _ _ _))

pub note_stmt-returns-in-None : goal.note_stmt-returns-in-None
note_stmt-returns-in-None t c =
    let all = noted_then _ _ _ _ _ _ _ (noted_then _ _ _ _ _ _ _ (c.note_expr-in-If.ensures) c.note_body-in-If.ensures) (noted_none _) in
    rw (c.in-If.is, c.in-None.is) (noted_as _ _ _ _ _ _ all (λ n. stmt_reads_if_only n _ _) (λ n. stmt_writes_if_only n _ _))
