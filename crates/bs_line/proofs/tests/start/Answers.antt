use Rattle.std.proofs.Common.{◌<◌, length, ap, arith}
use Rattle.bs_schedule.proofs.Places.{place_mem}
use Rattle.bs_line.proofs.tests.start.Goals as goal

pub start-requires-clause-on : goal.start-requires-clause-on
start-requires-clause-on c =
    let line = c.args.line.now in
    let lt : c.args.place < length line.layout.rows = omega (arith, c.if-place-as_slice.false, ap length c.as_slice.ensures) in
    rw c.as_slice-2.ensures ((c.requires.layout.rows.all _).1 (place_mem line.layout.rows c.args.place 0 lt))
