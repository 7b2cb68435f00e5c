-- Which statement three words ask to tune, and by which fraction.
use Rattle.std.specs.Prelude.{◌≤◌, Bool, Option, is_some, option_and_then, option_map}
use Rattle.bs_words.specs.Numbers.{number_from}
use Rattle.bs_words.specs.Plain.{Text}
use Rattle.bs_words.specs.declared.tuning.Tuning.{Tuning}

-- a statement from 1 to 10,000, and a fraction that is at most 1, with a lower number from 1 to 65,535
abbrev pub asked_tuning : Text → Text → Text → Option Tuning
asked_tuning stmt num den =
    option_and_then (λ s. option_and_then (λ d. option_map (λ n. record { stmt = s; num = n; den = d })
    (number_from 1 d num)) (number_from 1 65535 den)) (number_from 1 10000 stmt)

-- the three words ask for a tuning
abbrev pub is_tuning : Text → Text → Text → Bool
is_tuning stmt num den = is_some (asked_tuning stmt num den)

-- the numbers of a tuning that may be asked for
abbrev pub IsTuning : Tuning → Type 0
IsTuning tuning = (1 ≤ tuning.stmt) × (tuning.stmt ≤ 10000) × (1 ≤ tuning.num) × (tuning.num ≤ tuning.den) × (tuning.den ≤ 65535)
