-- Which words may stand for a file, a machine, a workload, its size and its seed, a statement, and a term of a fraction.
use Rattle.std.specs.Prelude.{ℕ, nat_le, length, Bool, true, false, ◌&&◌, List, [], ◌∷◌, is_some}
use Rattle.std.specs.List.{list_all}
use Rattle.bs_gen.specs.Words.{workload_of}
use Rattle.bs_words.specs.Machine.{machine_word}
use Rattle.bs_words.specs.Numbers.{number_from}
use Rattle.bs_words.specs.Plain.{Text}
use Rattle.bs_words.specs.declared.roles.Role.{Role}
use Rattle.bs_words.specs.declared.roles.Role.TheVariants as role

-- the name of a file, or `flat:P:L`
abbrev pub is_machine : Text → Bool
is_machine word = is_some (machine_word word)

-- `ring`, `stencil` or `tree`
abbrev pub is_workload : Text → Bool
is_workload word = is_some (workload_of word)

abbrev pub is_in_role : Role → Text → Bool
is_in_role role.File word = true
is_in_role role.Machine word = is_machine word
is_in_role role.Workload word = is_workload word
is_in_role role.Size word = is_some (number_from 1 512 word)
is_in_role role.Seed word = is_some (number_from 0 999999 word)
is_in_role role.Statement word = is_some (number_from 1 10000 word)
is_in_role role.Term word = is_some (number_from 1 65535 word)

-- at most so many machines
abbrev pub are_more : ℕ → List Text → Bool
are_more more names = nat_le (length names) more && list_all is_machine names

-- there are as many names as roles, each of which may stand for its own, and behind them up to `more` machines
abbrev pub are_in_roles : List Role → ℕ → List Text → Bool
are_in_roles [] more names = are_more more names
are_in_roles (role ∷ roles) more [] = false
are_in_roles (role ∷ roles) more (name ∷ names) = is_in_role role name && are_in_roles roles more names
