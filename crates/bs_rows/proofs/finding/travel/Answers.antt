use Rattle.std.proofs.Common.{arith, ap}
use Rattle.bs_rows.proofs.Numbered.{sent_fits}
use Rattle.bs_rows.proofs.finding.travel.Goals as goal

pub home-to-requires : goal.home-to-requires
home-to-requires c =
    let fits = sent_fits c.args.log.now c.args.mail c.requires.valid c.requires.is_send in
    omega (arith, ap (λ s. s.to) c.sent_at-sent.ensures, fits.target, c.requires.fitted)

pub duration-requires : goal.duration-requires
duration-requires c =
    let offset = (sent_fits c.args.log.now c.args.mail c.requires.valid c.requires.is_send).offset in
    let is = ap (λ s. s.offset) c.sent_at-sent.ensures in
    (omega (arith, is, offset.least_is), omega (arith, is, offset.most_is))

pub latency-requires-clause-bytes : goal.latency-requires-clause-bytes
latency-requires-clause-bytes c =
    let fits = sent_fits c.args.log.now c.args.mail c.requires.valid c.requires.is_send in
    omega (arith, ap (λ s. s.bytes) c.sent_at-sent.ensures, fits.bytes)
