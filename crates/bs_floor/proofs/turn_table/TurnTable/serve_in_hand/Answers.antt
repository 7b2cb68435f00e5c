use Rattle.std.proofs.Common.{◌∷◌, ap, sym, ◌∙◌}
use Rattle.atomic_table.specs.Table.{rest}
use Rattle.bs_floor.proofs.turn_table.TurnTable.serve_in_hand.Goals as goal

pub slot_mut-cell-requires : goal.slot_mut-cell-requires
slot_mut-cell-requires g c =
    let h = c.requires.held in
    (c.requires.own, (h.cell, h.held.1 ∙ ap (λ l. (c.args.at, h.cell) ∷ rest l) (sym h.held.1)))
