use Rattle.bs_tree.specs.Reads.{act_reads, act_writes}
use Rattle.bs_check.proofs.Rows.{left_item, left_end, noted_none, noted_as, noted_then, then_reads, then_writes}
use Rattle.bs_check.proofs.Unrolled.{reads_set, writes_set, reads_setat, writes_setat, reads_send, writes_send, reads_if_else, writes_if_else, reads_if_only, writes_if_only, reads_repeat, writes_repeat}
use Rattle.bs_check.proofs.uses.+act.Goals as goal

pub note_acts-loop-act-preserved : goal.note_acts-loop-act-preserved
note_acts-loop-act-preserved t c = left_item act_reads act_writes _ _ _ c.as_slice-act-items.result.now c.loop-act.act-index _ _ _ _ c.loop-act-test.true c.act-item.is c.loop-act.invariant c.note_act.ensures

pub note_acts-returns : goal.note_acts-returns
note_acts-returns t c =
    left_end act_reads act_writes _ _ c.as_slice-act-items.result.now c.loop-act.act-index _ _ c.loop-act-test.false c.loop-act.invariant

pub note_act-returns-in-Set : goal.note_act-returns-in-Set
note_act-returns-in-Set t c =
    let all = then_writes _ _ _ _ _ _ (c.note_expr.ensures) c.write.ensures in
    rw c.in-Set.is (noted_as _ _ _ _ _ _ all (λ n. reads_set n _ _) (λ n. writes_set n _ _))

pub note_act-returns-in-SetAt : goal.note_act-returns-in-SetAt
note_act-returns-in-SetAt t c =
    let all = then_writes _ _ _ _ _ _ (then_reads _ _ _ _ _ _ (c.note_expr-in-SetAt.ensures) c.note_expr-in-SetAt-2.ensures) c.write-in-SetAt.ensures in
    rw c.in-SetAt.is (noted_as _ _ _ _ _ _ all (λ n. reads_setat n _ _ _) (λ n. writes_setat n _ _ _))

pub note_act-returns-in-Send : goal.note_act-returns-in-Send
note_act-returns-in-Send t c =
    let all = then_reads _ _ _ _ _ _ (then_reads _ _ _ _ _ _ (then_reads _ _ _ _ _ _ (c.note_expr-in-Send.ensures) c.note_exprs.ensures) c.note_expr-in-Send-2.ensures) c.note_if_given.ensures in
    rw c.in-Send.is (noted_as _ _ _ _ _ _ all (λ n. reads_send n _ _ _ _ _) (λ n. writes_send n _ _ _ _ _))

pub note_act-returns-in-Some : goal.note_act-returns-in-Some
note_act-returns-in-Some t c =
    let all = noted_then _ _ _ _ _ _ _ (noted_then _ _ _ _ _ _ _ (c.note_expr-in-If.ensures) c.note_acts.ensures) c.note_acts-in-Some.ensures in
    rw (c.in-If.is, c.in-Some.is) (noted_as _ _ _ _ _ _ all (λ n. reads_if_else n _ _ _) (λ n. writes_if_else n _ _ _))

pub note_act-returns-in-None : goal.note_act-returns-in-None
note_act-returns-in-None t c =
    let all = noted_then _ _ _ _ _ _ _ (noted_then _ _ _ _ _ _ _ (c.note_expr-in-If.ensures) c.note_acts.ensures) (noted_none _) in
    rw (c.in-If.is, c.in-None.is) (noted_as _ _ _ _ _ _ all (λ n. reads_if_only n _ _) (λ n. writes_if_only n _ _))

pub note_act-returns-in-Repeat : goal.note_act-returns-in-Repeat
note_act-returns-in-Repeat t c =
    let all = noted_then _ _ _ _ _ _ _ (c.note_expr-in-Repeat.ensures) c.note_acts-in-Repeat.ensures in
    rw c.in-Repeat.is (noted_as _ _ _ _ _ _ all (λ n. reads_repeat n _ _) (λ n. writes_repeat n _ _))
