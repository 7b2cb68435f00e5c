use Rattle.bs_schedule.proofs.Places.{place_mem}
use Rattle.bs_line.proofs.making.causes.Goals as goal

pub causes_of-requires-clause-on : goal.causes_of-requires-clause-on
causes_of-requires-clause-on c = place_mem c.args.rows.now c.loop-row.row-index 0 c.loop-row-test.true
