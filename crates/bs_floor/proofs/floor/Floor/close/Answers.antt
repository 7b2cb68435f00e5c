use Rattle.std.proofs.Common.{length, map, arith, ap, ◌∙◌}
use Rattle.std.specs.Slots.{slots_counts}
use Rattle.bs_floor.specs.Seats.{SeatValue}
use Rattle.bs_floor.specs.Closing.{joined_lists}
use Rattle.bs_floor.proofs.Gathering.{numbered_somewhere}
use Rattle.bs_floor.proofs.SeatNumbering.{settles}
use Rattle.bs_floor.proofs.Settling.{settles_all}
use Rattle.bs_floor.proofs.floor.Floor.close.Goals as goal

pub returns : goal.returns
returns g c =
    let b = c.gathered-base.ensures in
    let v = c.self.invariant in
    let slots = slots_counts c.close_with-closed.result.slots in
    let cells = c.from_vec.ensures ∙ c.emptied.ensures in
    let as_many = c.close_with-closed.ensures.counts in
    let stations = ap (λ f. length f.1.stations.value.items) c.self.view_is in
    let same = ap length cells in
    settles_all g.S.Station c.args.self.1 _ _ _ (omega (arith, v))
    (settles g.S.Station _ _ (ap (λ f. f.1) c.self.view_is) _ _ _ _ _ (joined_lists (map (λ (s : SeatValue g.row.S.Denot g.row.S-Job.Denot g.row.S-Item.Denot). s.1.posts) c.args.seats.items)) (joined_lists (map (λ (s : SeatValue g.row.S.Denot g.row.S-Job.Denot g.row.S-Item.Denot). s.1.serves) c.args.seats.items))
    (map (λ (s : SeatValue g.row.S.Denot g.row.S-Job.Denot g.row.S-Item.Denot). s.1.number) c.args.seats.items) b.free.0 b.free.1 b.all.0 b.all.1 b.all.2
    (λ n low. let is = c.requires.each n low in numbered_somewhere (λ (s : SeatValue g.row.S.Denot g.row.S-Job.Denot g.row.S-Item.Denot). s.1.number) c.args.seats.items n is.0 is.1 is.2 is.3 is.4)
    cells c.close_with-closed.ensures.values.2)
