use Rattle.std.proofs.Common.{arith}
use Rattle.bs_rows.specs.Rows.{net_on}
use Rattle.bs_line.proofs.Chosen.{those_all, those_next}
use Rattle.bs_line.proofs.choosing.rows_on.Goals as goal

pub loop-place-preserved : goal.loop-place-preserved
loop-place-preserved c = those_next (net_on c.args.log.now c.args.machine.now) c.args.processor c.loop-place.place _ c.loop-place.rows _ c.loop-place.invariant (omega arith, omega (arith, c.loop-place-test.true, c.count-place-end.ensures.value)) c.home.ensures.value c.in_ok-add_row.ensures

pub returns : goal.returns
returns c = those_all (net_on c.args.log.now c.args.machine.now) c.args.processor c.loop-place.place c.loop-place.rows c.loop-place.invariant (omega (arith, c.loop-place-test.false, c.count-place-end.ensures.value))
