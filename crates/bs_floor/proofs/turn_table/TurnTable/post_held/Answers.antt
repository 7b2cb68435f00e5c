use Rattle.std.proofs.Common.{◌∷◌, [], ap, ◌∙◌}
use Rattle.bs_floor.specs.SeatSteps.{with_post}
use Rattle.bs_floor.specs.SeatViews.{turn_at}
use Rattle.bs_floor.specs.History.{with_item}
use Rattle.bs_floor.specs.Hands.{HasInHand}
use Rattle.bs_floor.proofs.AtWords.{few_served}
use Rattle.bs_floor.proofs.turn_table.TurnTable.post_held.Goals as goal

pub post_counted-posted-requires-clause-held : goal.post_counted-posted-requires-clause-held
post_counted-posted-requires-clause-held g c =
    let h = c.requires.held.0 in
    let look = c.look-place.ensures.look h.cell h.held in
    record { cell = h.cell; good = h.good; held = (ap (λ m. m.0.held) look ∙ h.held.0, ap (λ m. m.1) look ∙ h.held.1) }

pub returns-clause-ok : goal.returns-clause-ok
returns-clause-ok g c = λ d held.
    let h = c.requires.held.0 in
    let look = c.look-place.ensures.look d held in
    let there : HasInHand g.S.Station c.args.to d c.look-place.new.seat.me = (ap (λ m. m.0.held) look ∙ held.0, ap (λ m. m.1) look ∙ held.1) in (
      (c.look-place.ensures.counts d held).0,
      few_served g.S.Station c.args.self.now.table.shared.key c.args.to c.args.seat.now.me d h held,
      c.in_ok-posted.ensures.ok d there ∙ ap (λ m. (with_post g.S.Station m.0 (turn_at c.args.to d) c.args.item, (c.args.to, with_item g.S.Station d c.args.item) ∷ [])) look,
    )
