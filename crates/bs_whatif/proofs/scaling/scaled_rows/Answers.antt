use Rattle.std.proofs.Common.{subst, sym}
use Rattle.bs_log.specs.Lists.{Mem}
use Rattle.bs_schedule.proofs.Places.{place_mem}
use Rattle.bs_whatif.proofs.scaling.scaled_rows.Goals as goal

pub scaled_row-requires-clause-cheap : goal.scaled_row-requires-clause-cheap
scaled_row-requires-clause-cheap c =
    let x = c.row-item.result in
    c.requires.cheap x (subst (λ r. Mem r c.args.rows.now) (sym c.row-item.is) (place_mem c.args.rows.now c.loop-row.row-index x c.loop-row-test.true))
