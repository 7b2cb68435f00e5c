use Rattle.std.proofs.Common.{◌+◌, ◌∷◌, [], ℕ, rules, arith, ap, ◌∙◌}
use Rattle.bs_floor.specs.Hands
use Rattle.bs_floor.specs.History
use Rattle.bs_floor.specs.SeatSteps
use Rattle.bs_floor.specs.SeatViews
use Rattle.bs_floor.proofs.AtWords.{at_count_serve}
use Rattle.bs_floor.proofs.turn_table.TurnTable.serve_held.Goals as goal

pub serve_in_hand-requires-clause-held : goal.serve_in_hand-requires-clause-held
serve_in_hand-requires-clause-held g c =
    let h = c.requires.held.0 in
    let look = c.look-posted.ensures.look h.cell h.held in
    record { cell = h.cell; good = h.good; held = (ap (λ m. m.0.held) look ∙ h.held.0, ap (λ m. m.1) look ∙ h.held.1) }

pub fetch_add-requires : goal.fetch_add-requires
fetch_add-requires g c =
    let h = c.requires.held.0 in
    let n = c.slot_count-stations.ensures in
    let s = c.requires.sized in
    let look = c.look-posted.ensures.look h.cell h.held in
    let there : Hands.HasInHand g.S.Station c.args.at h.cell c.look-posted.new.seat.me = (ap (λ m. m.0.held) look ∙ h.held.0, ap (λ m. m.1) look ∙ h.held.1) in
    let done = c.in-Ok.ensures.ok h.cell there in (
      search rules,
      omega arith,
      at_count_serve g.S.Station _ g.met.S.Station.stays_sound g.met.S.Station.stays_there _ _ _ _ _ h.cell done.item (ap (λ (z : ℕ). z + z + c.args.at) n) s.1 (ap (λ m. m.0.held) done.now ∙ there.0) done.item_is (c.look-posted.ensures.counts h.cell h.held).2,
    )

pub returns-clause-ok : goal.returns-clause-ok
returns-clause-ok g c = λ d held.
    let look = c.look-posted.ensures.look d held in
    let there : Hands.HasInHand g.S.Station c.args.at d c.look-posted.new.seat.me = (ap (λ m. m.0.held) look ∙ held.0, ap (λ m. m.1) look ∙ held.1) in
    let done = c.in-Ok.ensures.ok d there in
    let counted = c.fetch_add.ensures.2 (SeatViews.turn_at c.args.at d) done.item (ap (λ m. m.0.held) done.now ∙ there.0) done.item_is in (
      done.item,
      (c.look-posted.ensures.counts d held).1,
      done.item_is,
      done.sends_are,
      counted.1 ∙ ap (λ m. (SeatSteps.with_serve g.S.Station m.0 (SeatViews.turn_at c.args.at d) done.item, m.1)) done.now ∙ ap (λ m. (SeatSteps.with_serve g.S.Station m.0 (SeatViews.turn_at c.args.at d) done.item, (c.args.at, History.with_served g.S.Station d done.item) ∷ [])) look,
    )
