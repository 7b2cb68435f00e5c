use Rattle.std.proofs.Common.{arith, ap}
use Rattle.bs_times.proofs.Found.{row_fits}
use Rattle.bs_rows.proofs.finding.home.Goals as goal

pub home-requires : goal.home-requires
home-requires c =
    let fits = row_fits c.args.log.now c.args.number c.requires.valid c.requires.some c.requires.most in
    omega (arith, ap (λ r. r.chare) c.row_at.ensures, fits.chare, c.requires.fitted)
