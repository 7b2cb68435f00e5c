use Rattle.std.proofs.Common.{arith, ap, length}
use Rattle.bs_rows.proofs.Numbered.{rows_few}
use Rattle.bs_rows.proofs.finding.count.Goals as goal

pub overflow_cast-result : goal.overflow_cast-result
overflow_cast-result c = omega (arith, ap length c.as_slice.ensures, rows_few c.args.log.now c.requires)

pub returns-clause-few : goal.returns-clause-few
returns-clause-few c = omega (arith, ap length c.as_slice.ensures, rows_few c.args.log.now c.requires)
