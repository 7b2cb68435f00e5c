use Rattle.std.proofs.Common.{◌+◌, ◌<◌, ℕ, rules, arith, sym, ap, ◌∙◌, subst}
use Rattle.bs_floor.specs.Hands
use Rattle.bs_floor.specs.SeatViews
use Rattle.bs_floor.proofs.AtWords.{at_posted, at_served}
use Rattle.bs_floor.proofs.turn_table.TurnTable.look.Goals as goal

pub load-posted-requires : goal.load-posted-requires
load-posted-requires g c =
    let h = c.requires.held.0 in
    let n = c.slot_count-stations.ensures in
    let s = c.requires.sized in
    (search rules, omega arith, at_posted g.S.Station _ _ _ _ _ _ h.cell (ap (λ (z : ℕ). z + c.args.at) n) h.held)

pub load-served-requires : goal.load-served-requires
load-served-requires g c =
    let h = c.requires.held.0 in
    let n = c.slot_count-stations.ensures in
    let s = c.requires.sized in
    let same = c.load-posted.ensures.2.0 in (
      search rules,
      omega arith,
      at_served g.S.Station _ _ _ _ _ _ h.cell (ap (λ (z : ℕ). z + z + c.args.at) n) (subst (Hands.HasInHand g.S.Station c.args.at h.cell) (sym same) h.held) (ap (λ m. m.0.setup) same ∙ c.requires.held.1),
    )

pub returns-clause-look : goal.returns-clause-look
returns-clause-look g c = λ d held.
    let same = c.load-posted.ensures.2.0 in
    let there = subst (Hands.HasInHand g.S.Station c.args.at d) (sym same) held in
    (c.load-served.ensures.2 (SeatViews.turn_at c.args.at d) there.0).1 ∙ ap (λ m. (SeatViews.with_look m.0 (Hands.counts_look g.S.Station c.args.at d), m.1)) same

pub returns-clause-counts : goal.returns-clause-counts
returns-clause-counts g c = λ d held.
    let same = c.load-posted.ensures.2.0 in
    let there = subst (Hands.HasInHand g.S.Station c.args.at d) (sym same) held in
    let read = c.load-posted.ensures.2.1 (SeatViews.turn_at c.args.at d) held.0 in
    (read, (c.load-served.ensures.2 (SeatViews.turn_at c.args.at d) there.0).0, subst (λ (z : ℕ). z < 18446744073709551616) read c.load-posted.type_inv)
