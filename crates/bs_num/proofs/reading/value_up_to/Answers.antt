use Rattle.std.proofs.Common.{◌+◌, drop, arith, add-one, drop-cons, get_or}
use Rattle.bs_num.specs.Decimal.{value_of}
use Rattle.bs_num.proofs.Digits.{next_below, too_large}
use Rattle.bs_num.proofs.reading.value_up_to.Goals as goal

pub returns-then-number-most : goal.returns-then-number-most
returns-then-number-most c =
    let at = c.loop-digit.digit-index in
    let digits = c.args.digits.now in
    let next = next_below c.loop-digit.number (get_or digits at 0) (value_of digits) (drop at digits) (drop (at + 1) digits) c.loop-digit.invariant.so_far (rw add-one (drop-cons digits at 0 c.loop-digit-test.true)) in
    too_large c.args.most (value_of digits) (omega (arith, next))
