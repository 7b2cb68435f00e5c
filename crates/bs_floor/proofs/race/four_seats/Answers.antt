use Rattle.std.proofs.Common.{◌≡◌, Some, length, refl, ap, sym, ◌∙◌, arith}
use Rattle.std.specs.Prelude.{slice_get}
use Rattle.std.proofs.lemmas.Grind.{common_steps}
use Rattle.std.proofs.lemmas.Option.{slice_get_read}
use Rattle.bs_floor.proofs.SeatLists.{earlier_stays}
use Rattle.bs_floor.proofs.race.four_seats.Goals as goal

pub returns-clause-three : goal.returns-clause-three
returns-clause-three c =
    let there : slice_get c.in_ok-floor.seats.items 3 ≡ Some c.remove-three.result = slice_get_read c.in_ok-floor.seats.items (length c.in_ok-floor.seats.items) 3 c.remove-three.result refl (let many = c.in_ok-floor.ensures.seats.1 in omega (arith, c.in_ok-floor.seats.ok.0)) c.remove-three.ensures.value in
    let is = c.in_ok-floor.ensures.each 3 c.remove-three.result there in
    (is.of_floor, is.number)

pub returns-clause-two : goal.returns-clause-two
returns-clause-two c =
    let there : slice_get c.remove-three.new.self.items 2 ≡ Some c.remove-two.result = slice_get_read c.remove-three.new.self.items (length c.remove-three.new.self.items) 2 c.remove-two.result refl (let many = c.in_ok-floor.ensures.seats.1 in let less = c.remove-three.ensures.len in omega (arith, c.in_ok-floor.seats.ok.0, c.remove-three.new.self.ok.0)) c.remove-two.ensures.value in
    let then = earlier_stays c.in_ok-floor.seats.items 3 2 c.remove-two.result (omega arith) (ap (λ l. slice_get l 2) (sym c.remove-three.ensures.items) ∙ there) in
    let is = c.in_ok-floor.ensures.each 2 c.remove-two.result then in
    (is.of_floor, is.number)

pub returns-clause-one : goal.returns-clause-one
returns-clause-one c =
    let there : slice_get c.remove-two.new.self.items 1 ≡ Some c.remove-one.result = slice_get_read c.remove-two.new.self.items (length c.remove-two.new.self.items) 1 c.remove-one.result refl (let many = c.in_ok-floor.ensures.seats.1 in let less = c.remove-three.ensures.len in let fewer = c.remove-two.ensures.len in omega (arith, c.in_ok-floor.seats.ok.0, c.remove-three.new.self.ok.0, c.remove-two.new.self.ok.0)) c.remove-one.ensures.value in
    let then = earlier_stays c.remove-three.new.self.items 2 1 c.remove-one.result (omega arith) (ap (λ l. slice_get l 1) (sym c.remove-two.ensures.items) ∙ there) in
    let first = earlier_stays c.in_ok-floor.seats.items 3 1 c.remove-one.result (omega arith) (ap (λ l. slice_get l 1) (sym c.remove-three.ensures.items) ∙ then) in
    let is = c.in_ok-floor.ensures.each 1 c.remove-one.result first in
    (is.of_floor, is.number)

pub returns-clause-nought : goal.returns-clause-nought
returns-clause-nought c =
    let there : slice_get c.remove-one.new.self.items 0 ≡ Some c.remove-nought.result = grind (arith, common_steps, c.remove-nought.ensures.value) in
    let third = earlier_stays c.remove-two.new.self.items 1 0 c.remove-nought.result (omega arith) (ap (λ l. slice_get l 0) (sym c.remove-one.ensures.items) ∙ there) in
    let then = earlier_stays c.remove-three.new.self.items 2 0 c.remove-nought.result (omega arith) (ap (λ l. slice_get l 0) (sym c.remove-two.ensures.items) ∙ third) in
    let first = earlier_stays c.in_ok-floor.seats.items 3 0 c.remove-nought.result (omega arith) (ap (λ l. slice_get l 0) (sym c.remove-three.ensures.items) ∙ then) in
    let is = c.in_ok-floor.ensures.each 0 c.remove-nought.result first in
    (is.of_floor, is.number)
