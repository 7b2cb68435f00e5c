use Rattle.std.proofs.Common.{arith}
use Rattle.bs_line.proofs.Parts.{line_few, row_there}
use Rattle.bs_line.proofs.making.local_cause.Goals as goal

pub overflow_cast-result : goal.overflow_cast-result
overflow_cast-result c = omega (arith, c.row_place.ensures.within, line_few c.args.log.now c.args.machine.now c.requires.valid c.args.rows.now c.requires.rows)

pub overflow_add-result : goal.overflow_add-result
overflow_add-result c = omega (arith, c.row_place.ensures.within, line_few c.args.log.now c.args.machine.now c.requires.valid c.args.rows.now c.requires.rows)

pub duration-requires-clause-some : goal.duration-requires-clause-some
duration-requires-clause-some c = (row_there c.args.log.now c.args.machine.now c.requires.valid c.args.rows.now c.requires.rows c.args.number c.requires.on).0

pub duration-requires-clause-most : goal.duration-requires-clause-most
duration-requires-clause-most c = (row_there c.args.log.now c.args.machine.now c.requires.valid c.args.rows.now c.requires.rows c.args.number c.requires.on).1
