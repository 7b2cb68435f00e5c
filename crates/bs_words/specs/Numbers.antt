-- Numbers in a range.
use Rattle.std.specs.Prelude.{ℕ, nat_le, Option, Some, None, Result, Ok, Err, if◌then◌else◌}
use Rattle.bs_num.specs.Decimal.{number_in}
use Rattle.bs_num.specs.declared.fault.NumFault.{NumFault}
use Rattle.bs_words.specs.Plain.{Text}

abbrev pub at_least : ℕ → Result ℕ NumFault → Option ℕ
at_least low (Ok n) = if nat_le low n then Some n else None
at_least low (Err fault) = None

-- a plain decimal from low to high
abbrev pub number_from : ℕ → ℕ → Text → Option ℕ
number_from low high text = at_least low (number_in high text)
