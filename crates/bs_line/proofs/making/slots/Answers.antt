use Rattle.bs_schedule.proofs.Places.{place_mem}
use Rattle.bs_line.proofs.making.slots.Goals as goal

pub slots_of-requires-clause-on : goal.slots_of-requires-clause-on
slots_of-requires-clause-on c = place_mem c.args.rows.now c.loop-row.row-index 0 c.loop-row-test.true
