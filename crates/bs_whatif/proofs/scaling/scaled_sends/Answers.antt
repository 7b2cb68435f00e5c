use Rattle.std.proofs.Common.{get_or, pos}
use Rattle.bs_log.specs.declared.history.Sent.{Sent}
use Rattle.bs_schedule.proofs.Places.{place_mem}
use Rattle.bs_whatif.proofs.scaling.scaled_sends.Goals as goal

pub scale_if-offset-requires-clause-cheap : goal.scale_if-offset-requires-clause-cheap
scale_if-offset-requires-clause-cheap c =
    let none : Sent = record { to = 0; key = record { entry = 0; reference = pos 0 }; bytes = 0; offset = 0 } in
    c.requires.cheap (get_or c.args.sends.now c.loop-sent.sent-index none) (place_mem c.args.sends.now c.loop-sent.sent-index none c.loop-sent-test.true)
