use Rattle.std.proofs.Common.{◌≡◌, ◌∙◌, length, subst, arith}
use Rattle.bs_schedule.proofs.Places.{place_mem}
use Rattle.bs_rows.specs.Rows.{net_on}
use Rattle.bs_settle.specs.Shares.{AreShares}
use Rattle.bs_settle.proofs.Added.{mail_shared}
use Rattle.bs_settle.proofs.shares.share_mails.Goals as goal

pub goes_to-requires-clause-is_send : goal.goes_to-requires-clause-is_send
goes_to-requires-clause-is_send c = c.requires.sends _ (place_mem c.args.mails.now c.loop-k.k (record { row = 0; index = 0 }) c.loop-k-test.true)

pub push_coming-requires : goal.push_coming-requires
push_coming-requires c = omega (arith, c.goes_to.ensures.below, c.requires.many, c.loop-k.invariant.0)

pub home-requires-clause-some : goal.home-requires-clause-some
home-requires-clause-some c = (c.requires.sends _ (place_mem c.args.mails.now c.loop-k.k (record { row = 0; index = 0 }) c.loop-k-test.true)).row_some

pub home-requires-clause-most : goal.home-requires-clause-most
home-requires-clause-most c = (c.requires.sends _ (place_mem c.args.mails.now c.loop-k.k (record { row = 0; index = 0 }) c.loop-k-test.true)).row_most

pub push_going-requires : goal.push_going-requires
push_going-requires c = omega (arith, c.home.ensures.below, c.requires.many, c.loop-k.invariant.0, c.in_ok-push_coming.ensures.long)

pub loop-k-preserved : goal.loop-k-preserved
loop-k-preserved c =
    let net = net_on c.args.log.now c.args.machine.now in (
      c.in_ok-push_going.ensures.long ∙ c.in_ok-push_coming.ensures.long ∙ c.loop-k.invariant.0,
      λ many n s. mail_shared net many n c.loop-k.k c.goes_to.result c.home.result c.args.mails.now c.args.ticks.now (record { row = 0; index = 0 }) (record { 0 = 0 }) c.loop-k.shares.items c.push_coming.new.shares.items c.push_going.new.shares.items c.loop-k-test.true c.requires.each c.goes_to.ensures.value c.home.ensures.value (c.loop-k.invariant.1 many n s) c.in_ok-push_coming.ensures c.in_ok-push_going.ensures,
    )

pub returns : goal.returns
returns c many n s =
    let e : c.loop-k.k ≡ length c.args.mails.now = omega (arith, c.loop-k-test.false, c.loop-k.auto.k-end) in
    subst (λ k. AreShares (net_on c.args.log.now c.args.machine.now) many n k c.args.mails.now c.args.ticks.now c.loop-k.shares.items) e (c.loop-k.invariant.1 many n s)
