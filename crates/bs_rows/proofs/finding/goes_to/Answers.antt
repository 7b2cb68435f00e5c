use Rattle.std.proofs.Common.{arith, ap}
use Rattle.bs_rows.proofs.Numbered.{sent_fits}
use Rattle.bs_rows.proofs.finding.goes_to.Goals as goal

pub home-requires : goal.home-requires
home-requires c =
    let fits = sent_fits c.args.log.now c.args.mail c.requires.valid c.requires.is_send in
    omega (arith, ap (λ s. s.to) c.sent_at.ensures, fits.target, c.requires.fitted)
