use Rattle.std.proofs.Common.{◌<◌, length, ap, arith}
use Rattle.bs_log.specs.declared.log.MailRef.{MailRef}
use Rattle.bs_schedule.proofs.Places.{place_mem}
use Rattle.bs_line.proofs.tests.set.Goals as goal

pub set-requires-clause-listed : goal.set-requires-clause-listed
set-requires-clause-listed c =
    let line = c.args.line.now in
    let none : MailRef = record { row = 0; index = 0 } in
    let lt : c.args.place < length line.layout.mails = omega (arith, c.if-place-as_slice.false, ap length c.as_slice.ensures) in
    rw c.as_slice-2.ensures ((c.requires.layout.comes.all _).1 (place_mem line.layout.mails c.args.place none lt))
