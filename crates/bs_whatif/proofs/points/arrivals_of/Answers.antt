use Rattle.std.proofs.Common.{get_or, arith}
use Rattle.bs_log.specs.declared.log.MailRef.{MailRef}
use Rattle.bs_schedule.proofs.Places.{place_mem}
use Rattle.bs_whatif.proofs.points.arrivals_of.Goals as goal

pub overflow_sub-start : goal.overflow_sub-start
overflow_sub-start c =
    let none : MailRef = record { row = 0; index = 0 } in
    (c.requires.sends (get_or c.args.mails.now c.loop-mail.mail-index none) (place_mem c.args.mails.now c.loop-mail.mail-index none c.loop-mail-test.true)).row_some

pub bounds-starts-mail : goal.bounds-starts-mail
bounds-starts-mail c =
    let none : MailRef = record { row = 0; index = 0 } in
    let is = c.requires.sends (get_or c.args.mails.now c.loop-mail.mail-index none) (place_mem c.args.mails.now c.loop-mail.mail-index none c.loop-mail-test.true) in
    omega (arith, is.row_some, is.row_most, c.requires.each)

pub travel-requires-clause-is_send : goal.travel-requires-clause-is_send
travel-requires-clause-is_send c =
    let none : MailRef = record { row = 0; index = 0 } in
    c.requires.sends (get_or c.args.mails.now c.loop-mail.mail-index none) (place_mem c.args.mails.now c.loop-mail.mail-index none c.loop-mail-test.true)
