-- The machine of a file, or what refuses it.
use Rattle.std.specs.Prelude.{ℕ, ◌-◌, ◌^◌, nat_le, Bool, true, not, ◌&&◌, List, length, Option, Some, None, is_some, Ok, Err, codes, option_and_then, option_map, if◌then◌else◌}
use Rattle.std.specs.List.{find}
use Rattle.std.specs.Str.{is_utf8}
use Rattle.toml.specs.Data.{Members}
use Rattle.toml.specs.Parse.{parse_document}
use Rattle.bs_machine.specs.Answer.{Answer, ◌>>=◌}
use Rattle.bs_machine.specs.Keys.{all_keys, are_known_tables}
use Rattle.bs_machine.specs.Machine.{SpeedOf, CostsOf, MachineOf}
use Rattle.bs_machine.specs.Values.{value_at, is_text, is_listed, or_out_of_range, number_at, list_at}
use Rattle.bs_machine.specs.declared.fault.MachineFault.TheVariants.{NotToml, UnknownKey, Missing, OutOfRange}
use Rattle.bs_machine.specs.declared.key.MachineKey.{MachineKey}
use Rattle.bs_machine.specs.declared.key.MachineKey.TheVariants as key
use Rattle.bs_net.specs.Range.{most_processors, processors_in}
use Rattle.bs_net.specs.declared.place.Place.{Place}
use Rattle.bs_net.specs.declared.place.Place.TheVariants.{Block, Cycle, Listed}

-- the table that the bytes are, where they are TOML
abbrev pub root_of : List ℕ → Option Members
root_of bytes = if is_utf8 bytes then parse_document bytes else None

-- a list of homes stands beside a kind that isn't `list`
abbrev pub has_stray_list : Members → Bool
has_stray_list root = is_some (value_at key.PlaceList root) && (is_some (value_at key.PlaceKind root) && not (is_listed root))

abbrev pub keys_known : Members → Answer (Unit {0})
keys_known root = if are_known_tables root && not (has_stray_list root) then Ok tt else Err UnknownKey

-- each key is needed, but the list of homes, which is where the kind is `list`
abbrev pub is_needed : MachineKey → Members → Bool
is_needed key.PlaceList root = is_listed root
is_needed _ root = true

abbrev pub is_missing : MachineKey → Members → Bool
is_missing k root = is_needed k root && not (is_some (value_at k root))

abbrev pub missing_fault : Option MachineKey → Answer (Unit {0})
missing_fault None = Ok tt
missing_fault (Some k) = Err (Missing k)

-- the first key that is missing
abbrev pub keys_given : Members → Answer (Unit {0})
keys_given root = missing_fault (find (λ k. is_missing k root) all_keys)

abbrev pub one_to_six : List ℕ → Option (List ℕ)
one_to_six sizes = if nat_le 1 (length sizes) && nat_le (length sizes) 6 then Some sizes else None

abbrev pub sizes_at : Members → Answer (List ℕ)
sizes_at root = or_out_of_range key.TorusSizes None (option_and_then one_to_six (list_at key.TorusSizes 1 65536 root))

-- all processors together are not too many
abbrev pub processors_at : List ℕ → ℕ → Answer ℕ
processors_at sizes per_node =
    if nat_le (processors_in sizes per_node) most_processors then Ok (processors_in sizes per_node) else Err (OutOfRange key.TorusPerNode None)

abbrev pub place_at : ℕ → Members → Answer Place
place_at processors root =
    if is_text (codes "block") (value_at key.PlaceKind root) then Ok Block
    else (if is_text (codes "cycle") (value_at key.PlaceKind root) then Ok Cycle
    else (if is_listed root then or_out_of_range key.PlaceList None (option_map Listed (list_at key.PlaceList 0 (processors - 1) root))
    else Err (OutOfRange key.PlaceKind None)))

abbrev pub speed_at : Members → Answer SpeedOf
speed_at root = do
  num ← number_at key.SpeedNum 1 65535 root
  den ← number_at key.SpeedDen 1 65535 root
  Ok (record { num = num; den = den })

abbrev pub costs_at : Members → Answer CostsOf
costs_at root = do
  own ← number_at key.LatencySelf 1 (2 ^ 38) root
  local ← number_at key.LatencyLocal 1 (2 ^ 38) root
  base ← number_at key.LatencyBase 1 (2 ^ 38) root
  hop ← number_at key.LatencyHop 0 4194304 root
  num ← number_at key.LatencyBytesNum 0 256 root
  den ← number_at key.LatencyBytesDen 1 65535 root
  Ok (record { own = own; local = local; base = base; hop = hop; num = num; den = den })

-- the values, in the order of their keys: the first that is out of its range refuses
abbrev pub values_in : Members → Answer MachineOf
values_in root = do
  sizes ← sizes_at root
  per_node ← number_at key.TorusPerNode 1 65536 root
  processors ← processors_at sizes per_node
  place ← place_at processors root
  speed ← speed_at root
  costs ← costs_at root
  Ok (record { sizes = sizes; per_node = per_node; place = place; speed = speed; costs = costs })

-- unknown keys first, then missing ones, then values out of their ranges
abbrev pub machine_of_root : Option Members → Answer MachineOf
machine_of_root None = Err NotToml
machine_of_root (Some root) = do
  _ ← keys_known root
  _ ← keys_given root
  values_in root

abbrev pub machine_in : List ℕ → Answer MachineOf
machine_in bytes = machine_of_root (root_of bytes)
