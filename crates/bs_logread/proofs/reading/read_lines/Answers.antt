use Rattle.bs_logread.proofs.SoFar.{one_more, some_left, none_left, trailing, done}
use Rattle.bs_logread.proofs.reading.read_lines.Goals as goal

pub loop-progress-preserved : goal.loop-progress-preserved
loop-progress-preserved c =
    let e = c.in_ok-line.ensures.ok in
    rw (c.after-progress.ensures, c.in_ok-take.ensures)
    (one_more c.args.bytes.now c.loop-progress.progress c.loop-progress.draft c.loop-progress.rest.now c.loop-progress.number c.in_ok-line.line c.in_ok-line.others.now c.loop-progress.invariant e.0 e.1)

pub returns-then-not-is_empty-clause-err : goal.returns-then-not-is_empty-clause-err
returns-then-not-is_empty-clause-err c =
    trailing c.args.bytes.now c.loop-progress.progress c.loop-progress.draft c.loop-progress.rest.now c.loop-progress.number c.loop-progress.invariant c.loop-progress-test.false (some_left c.loop-progress.rest.now c.is_empty.result c.is_empty.ensures c.if-not-is_empty.true)

pub returns-clause-ok : goal.returns-clause-ok
returns-clause-ok c =
    rw c.in_ok-finish.ensures (done c.args.bytes.now c.loop-progress.progress c.loop-progress.draft c.loop-progress.rest.now c.loop-progress.number c.loop-progress.invariant c.loop-progress-test.false
    (none_left c.loop-progress.rest.now c.is_empty.result c.is_empty.ensures c.if-not-is_empty.false))
