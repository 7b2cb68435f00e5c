-- The values of a machine file: what stands at a key, and how it is read.
use Rattle.std.specs.Prelude.{ℕ, ℤ, pos, nat_le, Bool, false, ◌&&◌, List, [], ◌∷◌, Option, Some, None, codes, Ok, Err, option_and_then, option_map, if◌then◌else◌}
use Rattle.std.specs.List.{list_all}
use Rattle.std.specs.Str.{bytes_eq}
use Rattle.toml.specs.Data.{Data, string, Items, no_items, item, Members, get_member, as_table, as_integer, as_array}
use Rattle.bs_machine.specs.Answer.{Answer}
use Rattle.bs_machine.specs.Keys.{Text, table_of, name_of}
use Rattle.bs_machine.specs.declared.fault.MachineFault.TheVariants.{OutOfRange}
use Rattle.bs_machine.specs.declared.key.MachineKey.{MachineKey}
use Rattle.bs_machine.specs.declared.key.MachineKey.TheVariants as key

-- what stands at a name of a table
abbrev pub value_in : Text → Text → Members → Option Data
value_in table name root = option_and_then (get_member name) (option_and_then as_table (get_member table root))

-- what stands at a key
abbrev pub value_at : MachineKey → Members → Option Data
value_at k root = value_in (table_of k) (name_of k) root

-- the value is this text
abbrev pub is_text : Text → Option Data → Bool
is_text text (Some (string said)) = bytes_eq said text
is_text text _ = false

-- chares are placed by a list
abbrev pub is_listed : Members → Bool
is_listed root = is_text (codes "list") (value_at key.PlaceKind root)

-- a whole number from low to high
abbrev pub within : ℕ → ℕ → Option ℤ → Option ℕ
within low high (Some (pos n)) = if nat_le low n && nat_le n high then Some n else None
within low high _ = None

-- a number out of its range is told, and any other value is not
abbrev pub or_out_of_range : {A : Type 0} → MachineKey → Option ℤ → Option A → Answer A
or_out_of_range k given (Some a) = Ok a
or_out_of_range k given None = Err (OutOfRange k given)

abbrev pub number_at : MachineKey → ℕ → ℕ → Members → Answer ℕ
number_at k low high root =
    let given = option_and_then as_integer (value_at k root) in
    or_out_of_range k given (within low high given)

abbrev pub numbers_in : ℕ → ℕ → Items → Option (List ℕ)
numbers_in low high no_items = Some []
numbers_in low high (item value rest) =
    option_and_then (λ n. option_map (λ ns. n ∷ ns) (numbers_in low high rest)) (within low high (as_integer value))

-- each number is from low to high
abbrev pub are_within : ℕ → ℕ → List ℕ → Bool
are_within low high ns = list_all (λ n. nat_le low n && nat_le n high) ns

-- a list of whole numbers from low to high
abbrev pub list_at : MachineKey → ℕ → ℕ → Members → Option (List ℕ)
list_at k low high root = option_and_then (numbers_in low high) (option_and_then as_array (value_at k root))
