use Rattle.std.proofs.Common.{◌≡◌, ◌∷◌, [], rules, sym, subst}
use Rattle.bs_floor.specs.Seats.{AllSeats}
use Rattle.bs_floor.proofs.SeatLists.{all_four}
use Rattle.bs_floor.proofs.race.closed.Goals as goal

pub close-requires : goal.close-requires
close-requires c =
    let items : c.push_reserved-4.new.self.items ≡ c.args.seats.nought ∷ c.args.seats.one ∷ c.args.seats.two ∷ c.args.seats.three ∷ [] = search rules in
    subst (AllSeats c.args.floor) (sym items) (all_four c.args.floor c.args.seats.nought c.args.seats.one c.args.seats.two c.args.seats.three c.requires.count c.requires.nought c.requires.one c.requires.two c.requires.three)
