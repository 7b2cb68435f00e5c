-- Reading what was printed, and printing what was read.
use Rattle.std.proofs.Common.{◌≡◌, ℕ, zero, suc, ◌-◌, ◌^◌, ◌≤◌, ◌<◌, ◌==◌, ℤ, pos, negsuc, Bool, true, false, not, ◌||◌, nat_lt, List, [], ◌∷◌, length, get_or, refl, ap, ◌∙◌, arith, rules, lit<}
use Rattle.std.specs.Prelude.{fold, Ok, Err, Result, IfOk, if◌then◌else◌, neg_ℤ}
use Rattle.std.specs.Int.{w64}
use Rattle.std.specs.Int.RustNames.{FitsSigned}
use Rattle.std.specs.List.{list_all}
use Rattle.std.specs.Fmt.{decimal, signed_decimal}
use Rattle.std.proofs.lemmas.Bool.Decides.{nat_tests}
use Rattle.std.proofs.lemmas.Grind.{common_steps}
use Rattle.std.proofs.lemmas.Fmt.{digits_decimal, digits_value-decimal, decimal-digits_value, first_decimal, decimal_nonempty, decimal_digit}
use Rattle.std.proofs.lemmas.Str.Parse.{IsNumeralModel, numerals_by_fold}
use Rattle.bs_num.specs.Decimal.{is_digit, is_plain, value_of, number_in, signed_in, from_zero, below_zero}
use Rattle.bs_num.specs.declared.fault.NumFault.{NumFault}
use Rattle.bs_num.specs.declared.fault.NumFault.TheVariants.{NotANumber, TooLarge}
use Rattle.bs_num.proofs.Digits.{with_digit}

abbrev AllDigits : List ℕ → Type 0
AllDigits text = list_all is_digit text ≡ true

-- `is_digit` and `value_of` are std's digits and their value
digits_are_numerals : IsNumeralModel AllDigits value_of
digits_are_numerals = numerals_by_fold AllDigits (search rules) (λ number digits. fold with_digit number digits) (search rules)

-- the parts of a plain decimal
plain_digits : (text : List ℕ) → is_plain text ≡ true → AllDigits text
plain_digits [] plain = refl
plain_digits (digit ∷ []) plain = grind (arith, common_steps)
plain_digits (digit ∷ next ∷ rest) plain = grind (arith, common_steps)

plain_nonempty : (text : List ℕ) → is_plain text ≡ true → 0 < length text
plain_nonempty [] plain = absurd (cc)
plain_nonempty (digit ∷ rest) plain = omega arith

plain_zero : (text : List ℕ) → is_plain text ≡ true → get_or text 0 0 ≡ 48 → length text ≡ 1
plain_zero [] plain first = absurd (cc)
plain_zero (digit ∷ []) plain first = refl
plain_zero (digit ∷ next ∷ rest) plain first = grind (arith, common_steps)

plain_from : (text : List ℕ) → AllDigits text → 0 < length text → (get_or text 0 0 ≡ 48 → length text ≡ 1) → is_plain text ≡ true
plain_from [] digits some zeros = absurd (omega arith)
plain_from (digit ∷ []) digits some zeros = grind (arith, common_steps)
plain_from (digit ∷ next ∷ rest) digits some zeros = grind (arith, common_steps, zeros)

-- a plain decimal is what is printed for its number
pub plain_printed : (text : List ℕ) → is_plain text ≡ true → value_of text < 2 ^ 64 → decimal (value_of text) ≡ text
plain_printed text plain below =
    decimal-digits_value digits_are_numerals text (plain_digits text plain) (plain_nonempty text plain) (plain_zero text plain) below

pub value_of-decimal : (n : ℕ) → n < 2 ^ 64 → value_of (decimal n) ≡ n
value_of-decimal n below = digits_value-decimal digits_are_numerals n below

first_zero : (n : ℕ) → n < 2 ^ 64 → get_or (decimal n) 0 0 ≡ 48 → length (decimal n) ≡ 1
first_zero zero below first = ap length (decimal_digit 0 (omega arith))
first_zero (suc n) below first = absurd (omega (arith, first_decimal (suc n) (omega arith) below))

-- what is printed is a plain decimal
pub is_plain-decimal : (n : ℕ) → n < 2 ^ 64 → is_plain (decimal n) ≡ true
is_plain-decimal n below = plain_from (decimal n) (digits_decimal digits_are_numerals n below) (decimal_nonempty n below) (first_zero n below)

-- a number that is read is the one that prints the text
ok_printed : (most : ℕ) (text : List ℕ) → most < 2 ^ 64 → (plain over : Bool) → is_plain text ≡ plain → nat_lt most (value_of text) ≡ over
    → IfOk (if not plain then Err NotANumber else (if over then Err TooLarge else Ok (value_of text))) (λ n. decimal n ≡ text)
ok_printed most text fits false over is side = tt
ok_printed most text fits true true is side = tt
ok_printed most text fits true false is side = plain_printed text is (grind (arith, nat_tests))

pub number_printed : (most : ℕ) (text : List ℕ) → most < 2 ^ 64 → IfOk (number_in most text) (λ n. decimal n ≡ text)
number_printed most text fits = ok_printed most text fits (is_plain text) (nat_lt most (value_of text)) refl refl

-- a number that is read is not above the greatest
most_kept : (most : ℕ) (text : List ℕ) → (plain over : Bool) → nat_lt most (value_of text) ≡ over
    → IfOk (if not plain then Err NotANumber else (if over then Err TooLarge else Ok (value_of text))) (λ n. n ≤ most)
most_kept most text false over side = tt
most_kept most text true true side = tt
most_kept most text true false side = grind (arith, nat_tests)

pub number_most : (most : ℕ) (text : List ℕ) → IfOk (number_in most text) (λ n. n ≤ most)
number_most most text = most_kept most text (is_plain text) (nat_lt most (value_of text)) refl

-- the number that was printed is read
pub number_read : (most n : ℕ) → most < 2 ^ 64 → n ≤ most → number_in most (decimal n) ≡ Ok n
number_read most n fits within =
    let plain : is_plain (decimal n) ≡ true = is_plain-decimal n (omega arith) in
    let value : value_of (decimal n) ≡ n = value_of-decimal n (omega arith) in
    let below : nat_lt most n ≡ false = grind (arith, nat_tests) in
    rw plain (rw value (rw below refl))

-- ---- numbers with a sign

-- a plain decimal begins with no sign
signed_plain : (text : List ℕ) → is_plain text ≡ true → signed_in text ≡ from_zero (number_in (2 ^ 63 - 1) text)
signed_plain [] plain = absurd (cc)
signed_plain (digit ∷ rest) plain =
    let no_sign : (digit == 45) ≡ false = grind (arith, nat_tests, plain_digits (digit ∷ rest) plain) in
    rw no_sign refl

below_zero_read : (n : ℕ) → suc n ≤ 2 ^ 63 → below_zero (decimal (suc n)) ≡ Ok (negsuc n)
below_zero_read n within =
    let plain : is_plain (decimal (suc n)) ≡ true = is_plain-decimal (suc n) (omega arith) in
    let value : value_of (decimal (suc n)) ≡ suc n = value_of-decimal (suc n) (omega arith) in
    let below : nat_lt (2 ^ 63) (suc n) ≡ false = grind (arith, nat_tests) in
    let some : (suc n == 0) ≡ false = grind (arith, nat_tests) in
    rw plain (rw value (rw some (rw below refl)))

pub signed_read : (n : ℤ) → FitsSigned w64 n → signed_in (signed_decimal n) ≡ Ok n
signed_read (pos n) fits =
    signed_plain (decimal n) (is_plain-decimal n (omega arith)) ∙ ap from_zero (number_read (2 ^ 63 - 1) n (lit< tt) (omega arith))
signed_read (negsuc n) fits = below_zero_read n (omega arith)

from_zero_printed : (text : List ℕ) (read : Result ℕ NumFault) → IfOk read (λ n. decimal n ≡ text) → IfOk (from_zero read) (λ n. signed_decimal n ≡ text)
from_zero_printed text (Ok n) is = is
from_zero_printed text (Err fault) is = tt

negated_printed : (n : ℕ) (digits : List ℕ) → decimal n ≡ digits → (n == 0) ≡ false → signed_decimal (neg_ℤ (pos n)) ≡ 45 ∷ digits
negated_printed zero digits is some = absurd (cc)
negated_printed (suc n) digits is some = ap (λ text. 45 ∷ text) is

below_zero_printed : (digits : List ℕ) (plain none over : Bool) → is_plain digits ≡ plain → (value_of digits == 0) ≡ none → nat_lt (2 ^ 63) (value_of digits) ≡ over
    → IfOk (if not plain || none then Err NotANumber else (if over then Err TooLarge else Ok (neg_ℤ (pos (value_of digits))))) (λ n. signed_decimal n ≡ 45 ∷ digits)
below_zero_printed digits false none over is nil side = tt
below_zero_printed digits true true over is nil side = tt
below_zero_printed digits true false true is nil side = tt
below_zero_printed digits true false false is nil side = negated_printed (value_of digits) digits (plain_printed digits is (grind (arith, nat_tests))) nil

signed_printed_from : (first : ℕ) (rest : List ℕ) (sign : Bool) → (first == 45) ≡ sign
    → IfOk (if sign then below_zero rest else from_zero (number_in (2 ^ 63 - 1) (first ∷ rest))) (λ n. signed_decimal n ≡ first ∷ rest)
signed_printed_from first rest true is =
    let dash : first ≡ 45 = grind (arith, nat_tests) in
    rw dash (below_zero_printed rest (is_plain rest) (value_of rest == 0) (nat_lt (2 ^ 63) (value_of rest)) refl refl refl)
signed_printed_from first rest false is = from_zero_printed (first ∷ rest) (number_in (2 ^ 63 - 1) (first ∷ rest)) (number_printed (2 ^ 63 - 1) (first ∷ rest) (lit< tt))

pub signed_printed : (text : List ℕ) → IfOk (signed_in text) (λ n. signed_decimal n ≡ text)
signed_printed [] = tt
signed_printed (first ∷ rest) = signed_printed_from first rest (first == 45) refl
