use Rattle.std.proofs.Common.{◌≡◌, ◌∙◌, length, subst, arith}
use Rattle.bs_rows.specs.Rows.{net_on}
use Rattle.bs_settle.specs.Shares.{AreShares}
use Rattle.bs_settle.proofs.Added.{row_shared}
use Rattle.bs_settle.proofs.shares.share_rows.Goals as goal

pub push_row-requires : goal.push_row-requires
push_row-requires c = omega (arith, c.home.ensures.below, c.requires.many, c.loop-place.invariant.0)

pub loop-place-preserved : goal.loop-place-preserved
loop-place-preserved c =
    let net = net_on c.args.log.now c.args.machine.now in (
      c.in_ok-push_row.ensures.long ∙ c.loop-place.invariant.0,
      λ many mails ticks s. row_shared net many c.loop-place.place c.home.result mails ticks c.loop-place.shares.items c.push_row.new.shares.items (omega arith, omega (arith, c.loop-place-test.true, c.count-place-end.ensures.value)) c.home.ensures.value (c.loop-place.invariant.1 many mails ticks s) c.in_ok-push_row.ensures,
    )

pub returns : goal.returns
returns c many mails ticks s =
    let e : c.loop-place.place ≡ length c.args.log.now.rows = omega (arith, c.loop-place-test.false, c.count-place-end.ensures.value, c.loop-place.auto.place-end) in
    subst (λ n. AreShares (net_on c.args.log.now c.args.machine.now) many n 0 mails ticks c.loop-place.shares.items) e (c.loop-place.invariant.1 many mails ticks s)
