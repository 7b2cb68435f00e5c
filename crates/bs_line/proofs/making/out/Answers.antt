use Rattle.std.proofs.Common.{arith}
use Rattle.bs_line.proofs.Parts.{line_few}
use Rattle.bs_line.proofs.making.out.Goals as goal

pub overflow_cast-result : goal.overflow_cast-result
overflow_cast-result c = omega (arith, c.row_place.ensures.within, line_few c.args.log.now c.args.machine.now c.requires.valid c.args.rows.now c.requires.rows)

pub overflow_add-result : goal.overflow_add-result
overflow_add-result c = omega (arith, c.row_place.ensures.within, line_few c.args.log.now c.args.machine.now c.requires.valid c.args.rows.now c.requires.rows)
