use Rattle.std.proofs.Common.{rules}
use Rattle.bs_floor.proofs.TurnSteps.{goes}
use Rattle.bs_floor.proofs.turn_table.TurnTable.take.Goals as goal

pub compare_exchange-requires : goal.compare_exchange-requires
compare_exchange-requires g c =
    let f = c.requires.free in
    (search rules, search rules, goes g.S.Station _ _ _ _ _ _ _ f.0 f.1 (search rules) c.requires.sized.1)

pub returns-clause-got : goal.returns-clause-got
returns-clause-got g c = λ z. (c.compare_exchange.ensures.2 _ c.requires.free.0).0 z

pub returns-clause-missed : goal.returns-clause-missed
returns-clause-missed g c = λ by e. (c.compare_exchange.ensures.2 _ c.requires.free.0).1 by e
