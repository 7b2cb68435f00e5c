use Rattle.std.proofs.Common.{◌≡◌, ◌∷◌, [], rules, sym, subst}
use Rattle.bs_floor.specs.Seats.{AllSeats}
use Rattle.bs_floor.proofs.SeatLists.{all_two}
use Rattle.bs_floor.proofs.tests.closed.Goals as goal

pub close-requires : goal.close-requires
close-requires c =
    let items : c.push_reserved-2.new.self.items ≡ c.args.nought ∷ c.args.one ∷ [] = search rules in
    subst (AllSeats c.args.floor) (sym items) (all_two c.args.floor c.args.nought c.args.one c.requires.seats c.requires.first.0 c.requires.first.1 c.requires.second.0 c.requires.second.1)
