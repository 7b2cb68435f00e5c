use Rattle.std.proofs.Common.{get_or}
use Rattle.bs_schedule.proofs.Places.{place_mem}
use Rattle.bs_times.proofs.Members.{mem_map}
use Rattle.bs_line.specs.declared.making.Estimate.{Estimate}
use Rattle.bs_line.specs.Making.{mails_of}
use Rattle.bs_line.proofs.Parts.{going_on}
use Rattle.bs_line.proofs.making.outs.Goals as goal

pub out-requires-clause-on : goal.out-requires-clause-on
out-requires-clause-on c =
    let none : Estimate = record { mail = record { row = 0; index = 0 }; tick = record { 0 = 0 } } in
    let e : Estimate = get_or c.args.goes.now c.loop-estimate.estimate-index none in
    (going_on c.args.log.now c.args.machine.now c.requires.valid c.args.rows.now (mails_of c.args.goes.now) e.mail c.requires.going (mem_map (λ (x : Estimate). x.mail) e c.args.goes.now (place_mem c.args.goes.now c.loop-estimate.estimate-index none c.loop-estimate-test.true))).1

pub out-requires-clause-is_send : goal.out-requires-clause-is_send
out-requires-clause-is_send c =
    let none : Estimate = record { mail = record { row = 0; index = 0 }; tick = record { 0 = 0 } } in
    let e : Estimate = get_or c.args.goes.now c.loop-estimate.estimate-index none in
    (going_on c.args.log.now c.args.machine.now c.requires.valid c.args.rows.now (mails_of c.args.goes.now) e.mail c.requires.going (mem_map (λ (x : Estimate). x.mail) e c.args.goes.now (place_mem c.args.goes.now c.loop-estimate.estimate-index none c.loop-estimate-test.true))).0
