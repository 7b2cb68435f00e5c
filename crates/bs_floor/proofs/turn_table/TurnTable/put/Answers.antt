use Rattle.std.proofs.Common.{rules, refl}
use Rattle.bs_floor.proofs.TurnSteps.{frees}
use Rattle.bs_floor.proofs.turn_table.TurnTable.put.Goals as goal

pub store-requires : goal.store-requires
store-requires g c =
    let h = c.requires.held.1 in
    (search rules, search rules, frees g.S.Station _ _ _ _ _ _ _ h.0 refl h.1)
