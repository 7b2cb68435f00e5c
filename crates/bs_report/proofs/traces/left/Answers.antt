use Rattle.std.proofs.Common.{arith, ap}
use Rattle.bs_times.proofs.Found.{send_fits}
use Rattle.bs_report.proofs.traces.left.Goals as goal

pub duration-requires : goal.duration-requires
duration-requires c =
    let is_send = c.requires.is_send in
    let offset = (send_fits c.args.log.now c.args.mail c.requires.valid is_send.row_some is_send.row_most is_send.index_some is_send.index_most).offset in
    let is = ap (λ s. s.offset) c.sent_at.ensures in
    (omega (arith, is, offset.least_is), omega (arith, is, offset.most_is))
