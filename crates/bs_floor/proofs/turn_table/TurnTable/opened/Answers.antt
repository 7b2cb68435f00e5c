use Rattle.std.proofs.Common.{rules, ap}
use Rattle.bs_floor.proofs.Openings.{opens}
use Rattle.bs_floor.proofs.turn_table.TurnTable.opened.Goals as goal

pub new-requires : goal.new-requires
new-requires g c =
    let stations = c.args.stations.items in
    let setup = c.setup_of-setup.result in
    let words = c.in_ok-words.words.items in
    let zeroed = c.in_ok-words.ensures.items_if_clones_equal (search rules) in
    let made = opens g.S.Station stations setup words c.requires.0 (ap (λ v. v.items) c.setup_of-setup.ensures.all.0) c.setup_of-setup.ensures.first (search rules) (search rules) (search rules) in
    rw (c.as_slice.ensures.value, c.in_ok-cells.ensures) made
