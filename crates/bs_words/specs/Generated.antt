-- Which program three words ask to generate.
use Rattle.std.specs.Prelude.{◌≤◌, Option, option_and_then, option_map}
use Rattle.bs_gen.specs.Words.{workload_of}
use Rattle.bs_words.specs.Numbers.{number_from}
use Rattle.bs_words.specs.Plain.{Text}
use Rattle.bs_words.specs.declared.generated.Generated.{Generated}

-- a kind, from 1 to 512 chares, and a seed from 0 to 999,999
abbrev pub asked_program : Text → Text → Text → Option Generated
asked_program kind chares seed =
    option_and_then (λ k. option_and_then (λ n. option_map (λ s. record { kind = k; chares = n; seed = s })
    (number_from 0 999999 seed)) (number_from 1 512 chares)) (workload_of kind)

-- the numbers of a program that may be generated
abbrev pub IsGenerated : Generated → Type 0
IsGenerated program = (1 ≤ program.chares) × (program.chares ≤ 512) × (program.seed ≤ 999999)
