use Rattle.std.proofs.Common.{◌==◌, ap}
use Rattle.bs_schedule.proofs.Places.{place_mem}
use Rattle.bs_rows.specs.Rows.{net_on}
use Rattle.bs_line.proofs.Kept.{kept_more}
use Rattle.bs_line.proofs.choosing.coming.Goals as goal

pub goes_to-requires-clause-is_send : goal.goes_to-requires-clause-is_send
goes_to-requires-clause-is_send c = c.requires.sends _ (place_mem c.args.mails.now c.loop-k.k (record { row = 0; index = 0 }) c.loop-k-test.true)

pub loop-k-preserved : goal.loop-k-preserved
loop-k-preserved c = kept_more (λ m. (net_on c.args.log.now c.args.machine.now).goes_to m == c.args.processor) c.args.mails.now c.args.estimates.now c.loop-k.k (record { row = 0; index = 0 }) (record { 0 = 0 }) _ c.loop-k.list _ _ c.loop-k-test.true c.requires.each (ap (λ h. h == c.args.processor) c.goes_to.ensures.value) c.loop-k.invariant c.in_ok-keep.ensures
