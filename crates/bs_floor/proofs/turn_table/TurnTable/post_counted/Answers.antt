use Rattle.std.proofs.Common.{◌+◌, ◌<◌, ℕ, rules, arith, ap, ◌∙◌, subst}
use Rattle.bs_floor.specs.SeatSteps.{posted_in_hand, with_post}
use Rattle.bs_floor.specs.SeatViews.{turn_at}
use Rattle.bs_floor.proofs.AtWords.{at_count_post}
use Rattle.bs_floor.proofs.turn_table.TurnTable.post_counted.Goals as goal

pub post_in_hand-requires-clause-held : goal.post_in_hand-requires-clause-held
post_in_hand-requires-clause-held g c = (c.requires.held.cell, c.requires.held.held)

pub fetch_add-requires : goal.fetch_add-requires
fetch_add-requires g c =
    let h = c.requires.held in
    let n = c.slot_count-stations.ensures in
    let s = c.requires.sized in
    let put = c.in_ok-post_in_hand.ensures.ok h.cell h.held in (
      search rules,
      omega arith,
      at_count_post g.S.Station _ _ _ _ _ _ h.cell c.args.item (ap (λ (z : ℕ). z + c.args.to) n) s.1 (ap (λ m. m.0.held) put.2 ∙ h.held.0) (ap (λ m. m.1) put.2) c.requires.fits (subst (λ (z : ℕ). z < 18446744073709551616) put.0 put.1),
    )

pub returns-clause-ok : goal.returns-clause-ok
returns-clause-ok g c = λ d held.
    let put = c.in_ok-post_in_hand.ensures.ok d held in
    let counted = c.fetch_add.ensures.2 (turn_at c.args.to d) c.args.item (ap (λ m. m.0.held) put.2 ∙ held.0) (ap (λ m. posted_in_hand g.S.Station m.1) put.2) in
    counted.1 ∙ ap (λ m. (with_post g.S.Station m.0 (turn_at c.args.to d) c.args.item, m.1)) put.2
