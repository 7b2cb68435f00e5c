-- The processor of each chare.
use Rattle.std.specs.Prelude.{ℕ, ◌/◌, ◌%◌, ◌==◌, Bool, true, nat_lt, slice_index, length}
use Rattle.std.specs.List.{list_all}
use Rattle.std.specs.Int.{div_ceil}
use Rattle.bs_net.specs.declared.place.Place.{Place}
use Rattle.bs_net.specs.declared.place.Place.TheVariants.{Block, Cycle, Listed}

abbrev pub home_of : Place → ℕ → ℕ → ℕ → ℕ
home_of Block chare chares processors = chare / div_ceil chares processors
home_of Cycle chare chares processors = chare % processors
home_of (Listed homes) chare chares processors = slice_index homes chare

-- each processor that the place names is there
abbrev pub is_within : Place → ℕ → Bool
is_within (Listed homes) processors = list_all (λ home. nat_lt home processors) homes
is_within _ processors = true

-- a list has one processor for each chare
abbrev pub has_length : Place → ℕ → Bool
has_length (Listed homes) chares = length homes == chares
has_length _ chares = true

-- how many chares a list has a processor for
abbrev pub homes_in : Place → ℕ
homes_in (Listed homes) = length homes
homes_in _ = 0
