use Rattle.std.proofs.Common.{◌≡◌, arith, ap, sym, ◌∙◌, ◌∷◌, []}
use Rattle.bs_floor.specs.Seats.{SeatValue, IsSeatOf, seat_count}
use Rattle.bs_floor.proofs.SeatNumbering.{joins}
use Rattle.bs_floor.proofs.Gathering.{all_split, joined_more, mapped_more}
use Rattle.bs_floor.proofs.floor.Floor.gathered.Goals as goal

pub remove-requires : goal.remove-requires
remove-requires g c =
    let v = c.self.invariant in
    let seats : c.self.inside.inner.table.shared.key.seats ≡ seat_count c.args.self.now = ap (λ f. f.1.seats) c.self.view_is in
    let first = c.requires.each 0 (omega (arith, v)) in
    let low = first.2 in
    omega (arith, c.args.seats.ok.0)

pub join_seat-requires : goal.join_seat-requires
join_seat-requires g c =
    let i = c.loop-other.invariant in
    let is = (all_split (IsSeatOf c.args.self.now) _ _ _ c.in-Some.ensures.steps.0 i.7).0 in
    let v = c.self.invariant in (
      i.0 ∙ ap (λ f. f.0) (sym c.self.view_is),
      ap (λ s. s.0) c.other.view_is ∙ is.0 ∙ ap (λ f. f.0) (sym c.self.view_is),
      c.other.invariant.2,
      omega (arith, v),
      joins g.S.Station _ _ _ _ _ _ _ i.1 (ap (λ s. s.1.setup) c.other.view_is ∙ is.1) i.2 c.other.invariant.0,
    )

pub loop-other-preserved : goal.loop-other-preserved
loop-other-preserved g c =
    let i = c.loop-other.invariant in
    let j = c.join_seat.ensures in (
      j.0 ∙ i.0,
      ap (λ m. m.0.setup) j.2 ∙ i.1,
      ap (λ m. m.0.held) j.2 ∙ i.2,
      ap (λ m. m.1) j.2 ∙ i.3,
      joined_more (λ (s : SeatValue g.row.S.Denot g.row.S-Job.Denot g.row.S-Item.Denot). s.1.posts) c.base.inside.seat.me.0.posts c.loop-other.base.me.0.posts c.join_seat.new.seat.me.0.posts c.loop-other.yielded c.in-Some.other c.other.inside.seat.me.0.posts i.4 (ap (λ m. m.0.posts) j.2) (ap (λ s. s.1.posts) c.other.view_is),
      joined_more (λ (s : SeatValue g.row.S.Denot g.row.S-Job.Denot g.row.S-Item.Denot). s.1.serves) c.base.inside.seat.me.0.serves c.loop-other.base.me.0.serves c.join_seat.new.seat.me.0.serves c.loop-other.yielded c.in-Some.other c.other.inside.seat.me.0.serves i.5 (ap (λ m. m.0.serves) j.2) (ap (λ s. s.1.serves) c.other.view_is),
      mapped_more (λ (s : SeatValue g.row.S.Denot g.row.S-Job.Denot g.row.S-Item.Denot). s.1.number) c.base.inside.seat.me.0.numbers c.loop-other.base.me.0.numbers c.join_seat.new.seat.me.0.numbers c.loop-other.yielded c.in-Some.other c.other.inside.seat.me.0.numbers i.6 (ap (λ m. m.0.numbers) j.2)
          (c.other.invariant.3 ∙ (λ m. (sym c.other.invariant.1 ∙ ap (λ s. s.1.number) c.other.view_is) m ∷ [])),
      (all_split (IsSeatOf c.args.self.now) _ _ _ c.in-Some.ensures.steps.0 i.7).1,
    )
