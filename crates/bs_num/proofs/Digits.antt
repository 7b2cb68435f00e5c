-- Values of digits.
use Rattle.std.proofs.Common.{◌≡◌, ℕ, ◌+◌, ◌*◌, ◌-◌, ◌≤◌, ◌<◌, List, [], ◌∷◌, sym, ap, ◌∙◌, arith}
use Rattle.std.specs.Prelude.{fold, Ok, Err, nat_lt, if◌then◌else◌}
use Rattle.std.proofs.lemmas.Bool.Decides.{nat_tests}
use Rattle.bs_num.specs.declared.fault.NumFault.TheVariants.{TooLarge}

-- the number with one digit more
abbrev pub with_digit : ℕ → ℕ → ℕ
with_digit number digit = number * 10 + (digit - 48)

-- more digits make no smaller number
pub value_grows : (number : ℕ) (digits : List ℕ) → number ≤ fold with_digit number digits
value_grows number [] = omega arith
value_grows number (digit ∷ rest) = omega (arith, value_grows (with_digit number digit) rest)

-- with one of the digits that are left, the number is at most the whole value
pub next_below : (number digit total : ℕ) (digits rest : List ℕ) → fold with_digit number digits ≡ total → digits ≡ digit ∷ rest → with_digit number digit ≤ total
next_below number digit total digits rest whole is =
    omega (arith, value_grows (with_digit number digit) rest, sym (ap (fold with_digit number) is) ∙ whole)

pub too_large : (most value : ℕ) → most < value → Err TooLarge ≡ (if nat_lt most value then Err TooLarge else Ok value)
too_large most value above = grind (arith, nat_tests)
