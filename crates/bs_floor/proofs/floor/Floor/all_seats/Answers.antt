use Rattle.std.proofs.Common.{◌≡◌, suc, length, rules, arith, ap, sym, ◌∙◌}
use Rattle.std.specs.Prelude.{slice_get}
use Rattle.bs_floor.specs.Seats.{IsNewSeat}
use Rattle.bs_floor.proofs.Gathering.{numbered_more}
use Rattle.bs_floor.proofs.SeatNumbering.{splits}
use Rattle.bs_floor.proofs.floor.Floor.all_seats.Goals as goal

pub split_seat-seat-requires : goal.split_seat-seat-requires
split_seat-seat-requires g c =
    let i = c.loop-number.invariant in
    let v = c.self.invariant in
    let given : c.loop-number.first.me.0.given ≡ c.loop-number.number = ap (λ m. m.0.given) i.1 in
    let seats : c.self.inside.inner.table.shared.key.seats ≡ c.args.seats = ap (λ f. f.1.seats) c.self.view_is ∙ c.requires.count.1 in
    let low = c.loop-number-test.true in
    let some_number = i.2 in (
      i.0 ∙ ap (λ f. f.0) (sym c.self.view_is),
      omega (arith, v),
      splits g.S.Station _ _ _ _ (ap (λ m. m.0.setup) i.1) (omega arith) (omega arith),
    )

pub loop-number-preserved : goal.loop-number-preserved
loop-number-preserved g c =
    let i = c.loop-number.invariant in
    let made = c.split_seat-seat.ensures.4 in
    let numbered : c.loop-number.number ≡ suc (length c.loop-number.all.items) = let n = i.4 in omega (arith, c.loop-number.all.ok.0) in (
      search rules,
      search rules,
      search rules,
      search rules,
      search rules,
      λ k seat at. numbered_more (IsNewSeat c.args.self.now) c.loop-number.all.items (c.split_seat-seat.result.table_id, c.split_seat-seat.result.me.0) i.5 record {
        of_floor = (search rules, ap (λ m. m.0.setup) made ∙ ap (λ m. m.0.setup) i.1);
        number = ap (λ m. m.0.number) made ∙ ap (λ m. m.0.given) i.1 ∙ numbered;
        posts = ap (λ m. m.0.posts) made;
        serves = ap (λ m. m.0.serves) made;
        looks = ap (λ m. m.0.looks) made;
      } k seat (ap (λ l. slice_get l k) (sym c.in_ok-push.ensures.items) ∙ at),
    )
