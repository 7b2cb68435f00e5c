-- Plain decimal text: `0`, or digits that do not begin with `0`, and a `-` before such a number other
-- than 0 where signs are allowed.
use Rattle.std.specs.Prelude.{ℕ, ◌+◌, ◌*◌, ◌-◌, ◌^◌, ◌==◌, nat_le, nat_lt, Bool, false, not, ◌&&◌, ◌||◌, List, [], ◌∷◌, fold, ℤ, pos, neg_ℤ, Result, Ok, Err, if◌then◌else◌}
use Rattle.std.specs.List.{list_all}
use Rattle.bs_num.specs.declared.fault.NumFault.{NumFault}
use Rattle.bs_num.specs.declared.fault.NumFault.TheVariants.{NotANumber, TooLarge}

-- the byte is one of `0` to `9`
abbrev pub is_digit : ℕ → Bool
is_digit byte = nat_le 48 byte && nat_le byte 57

-- the number that digits stand for, the first digit the highest
abbrev pub value_of : List ℕ → ℕ
value_of digits = fold (λ number digit. number * 10 + (digit - 48)) 0 digits

-- `0`, or digits that do not begin with `0`
abbrev pub is_plain : List ℕ → Bool
is_plain [] = false
is_plain (digit ∷ []) = is_digit digit
is_plain (digit ∷ next ∷ rest) = not (digit == 48) && list_all is_digit (digit ∷ next ∷ rest)

-- how a text is read as a number of at most `most`
abbrev pub number_in : ℕ → List ℕ → Result ℕ NumFault
number_in most text =
    if not (is_plain text) then Err NotANumber
    else (if nat_lt most (value_of text) then Err TooLarge else Ok (value_of text))

-- a plain decimal other than `0`, with its sign
abbrev pub below_zero : List ℕ → Result ℤ NumFault
below_zero digits =
    if not (is_plain digits) || value_of digits == 0 then Err NotANumber
    else (if nat_lt (2 ^ 63) (value_of digits) then Err TooLarge else Ok (neg_ℤ (pos (value_of digits))))

abbrev pub from_zero : Result ℕ NumFault → Result ℤ NumFault
from_zero (Ok n) = Ok (pos n)
from_zero (Err fault) = Err fault

-- how a text is read as a number of 64 bits with a sign
abbrev pub signed_in : List ℕ → Result ℤ NumFault
signed_in [] = Err NotANumber
signed_in (first ∷ rest) = if first == 45 then below_zero rest else from_zero (number_in (2 ^ 63 - 1) (first ∷ rest))
