use Rattle.std.proofs.Common.{◌≡◌, Some, length, refl, ap, sym, ◌∙◌, arith}
use Rattle.std.specs.Prelude.{slice_get}
use Rattle.std.proofs.lemmas.Grind.{common_steps}
use Rattle.std.proofs.lemmas.Option.{slice_get_read}
use Rattle.bs_floor.proofs.SeatLists.{first_stays}
use Rattle.bs_floor.proofs.tests.two_seats.Goals as goal

pub returns-clause-nought : goal.returns-clause-nought
returns-clause-nought g c =
    let there : slice_get c.remove-one.new.self.items 0 ≡ Some c.remove-nought.result = grind (arith, common_steps, c.remove-nought.ensures.value) in
    let is = c.in_ok-floor.ensures.each 0 c.remove-nought.result (first_stays c.in_ok-floor.seats.items c.remove-nought.result (ap (λ l. slice_get l 0) (sym c.remove-one.ensures.items) ∙ there)) in
    (is.of_floor, is.number)

pub returns-clause-one : goal.returns-clause-one
returns-clause-one g c =
    let there : slice_get c.in_ok-floor.seats.items 1 ≡ Some c.remove-one.result = slice_get_read c.in_ok-floor.seats.items (length c.in_ok-floor.seats.items) 1 c.remove-one.result refl (let many = c.in_ok-floor.ensures.seats.1 in omega (arith, c.in_ok-floor.seats.ok.0)) c.remove-one.ensures.value in
    let is = c.in_ok-floor.ensures.each 1 c.remove-one.result there in
    (is.of_floor, is.number)
