use Rattle.bs_logread.proofs.Unique.{room, sound_read, broken_is}
use Rattle.bs_logread.proofs.reading.read.Goals as goal

pub first_broken-requires : goal.first_broken-requires
first_broken-requires c = record { room = room c.args.bytes.now c.in_ok-log.log c.in_ok-log.ensures.ok }

pub returns-in-None-clause-ok : goal.returns-in-None-clause-ok
returns-in-None-clause-ok c =
    let f = c.in_ok-first_broken.ensures in
    sound_read c.args.bytes.now c.in_ok-log.log c.in_ok-log.ensures.ok ((f.sound).0 c.in-None.is)

pub returns-in-Some-clause-err : goal.returns-in-Some-clause-err
returns-in-Some-clause-err c =
    let f = c.in_ok-first_broken.ensures in
    broken_is c.args.bytes.now c.in_ok-log.log c.in-Some.broken.line c.in-Some.broken.rule c.in_ok-log.ensures.ok ((f.first c.in-Some.broken.line c.in-Some.broken.rule).0 c.in-Some.is)
