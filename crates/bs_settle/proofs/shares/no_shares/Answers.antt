use Rattle.std.proofs.Common.{◌≡◌, ◌+◌, subst, sym, arith, rules}
use Rattle.bs_settle.specs.Shares.{AreShares}
use Rattle.bs_settle.proofs.Added.{nothing_more}
use Rattle.bs_settle.proofs.shares.no_shares.Goals as goal

pub loop-processor-preserved : goal.loop-processor-preserved
loop-processor-preserved c net mails ticks =
    subst (AreShares net (c.loop-processor._processor + 1) 0 0 mails ticks) (sym c.in_ok-push.ensures)
    (nothing_more net c.loop-processor._processor mails ticks c.loop-processor.shares.items _ (search rules) (search rules) (search rules) (c.loop-processor.invariant net mails ticks))

pub returns : goal.returns
returns c net mails ticks =
    let e : c.loop-processor._processor ≡ c.args.processors = omega (arith, c.loop-processor-test.false, c.loop-processor.auto._processor-end) in
    subst (λ n. AreShares net n 0 0 mails ticks c.loop-processor.shares.items) e (c.loop-processor.invariant net mails ticks)
