use Rattle.std.proofs.Common.{◌<◌, ◌^◌, subst, arith}
use Rattle.bs_log.specs.Lists.{Mem}
use Rattle.bs_settle.proofs.Early.{early_more}
use Rattle.bs_settle.proofs.tests.early.Goals as goal

pub loop-tick-preserved : goal.loop-tick-preserved
loop-tick-preserved c t m =
    let small : c.min-early.result < 2 ^ 107 = omega (arith, c.min-early.ensures) in
    early_more c.loop-tick.list (record { 0 = c.min-early.result }) small c.loop-tick.invariant t (subst (Mem t) c.in_ok-push.ensures.ok m)
