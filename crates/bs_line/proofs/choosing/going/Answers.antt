use Rattle.std.proofs.Common.{◌==◌, ap}
use Rattle.bs_schedule.proofs.Places.{place_mem}
use Rattle.bs_rows.specs.Rows.{net_on}
use Rattle.bs_line.proofs.Kept.{kept_more}
use Rattle.bs_line.proofs.choosing.going.Goals as goal

pub home-requires-clause-some : goal.home-requires-clause-some
home-requires-clause-some c = (c.requires.sends _ (place_mem c.args.mails.now c.loop-k.k (record { row = 0; index = 0 }) c.loop-k-test.true)).row_some

pub home-requires-clause-most : goal.home-requires-clause-most
home-requires-clause-most c = (c.requires.sends _ (place_mem c.args.mails.now c.loop-k.k (record { row = 0; index = 0 }) c.loop-k-test.true)).row_most

pub loop-k-preserved : goal.loop-k-preserved
loop-k-preserved c = kept_more (λ m. (net_on c.args.log.now c.args.machine.now).home m.row == c.args.processor) c.args.mails.now c.args.estimates.now c.loop-k.k (record { row = 0; index = 0 }) (record { 0 = 0 }) _ c.loop-k.list _ _ c.loop-k-test.true c.requires.each (ap (λ h. h == c.args.processor) c.home.ensures.value) c.loop-k.invariant c.in_ok-keep.ensures
