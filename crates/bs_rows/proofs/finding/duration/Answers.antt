use Rattle.std.proofs.Common.{arith, ap}
use Rattle.bs_times.proofs.Found.{row_fits}
use Rattle.bs_rows.proofs.finding.duration.Goals as goal

pub duration-requires : goal.duration-requires
duration-requires c =
    let cost = (row_fits c.args.log.now c.args.number c.requires.valid c.requires.some c.requires.most).ranges.cost in
    let is = ap (λ r. r.cost) c.row_at.ensures in
    (omega (arith, is, cost.least_is), omega (arith, is, cost.most_is))
