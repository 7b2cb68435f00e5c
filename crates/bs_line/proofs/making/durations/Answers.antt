use Rattle.bs_line.proofs.Parts.{row_at_there}
use Rattle.bs_line.proofs.making.durations.Goals as goal

pub duration-requires-clause-some : goal.duration-requires-clause-some
duration-requires-clause-some c = (row_at_there c.args.log.now c.args.machine.now c.requires.valid c.args.rows.now c.requires.rows c.loop-row.row-index 0 c.loop-row-test.true).0

pub duration-requires-clause-most : goal.duration-requires-clause-most
duration-requires-clause-most c = (row_at_there c.args.log.now c.args.machine.now c.requires.valid c.args.rows.now c.requires.rows c.loop-row.row-index 0 c.loop-row-test.true).1
