-- The keys of a machine file: each stands in one of the file's tables (docs/machine-file.md).
use Rattle.std.specs.Prelude.{ℕ, Bool, true, false, ◌&&◌, List, [], ◌∷◌, Option, Some, None, codes}
use Rattle.std.specs.List.{list_any}
use Rattle.std.specs.Str.{bytes_eq}
use Rattle.toml.specs.Data.{Members, no_members, member, as_table}
use Rattle.bs_machine.specs.declared.key.MachineKey.{MachineKey}
use Rattle.bs_machine.specs.declared.key.MachineKey.TheVariants as key

abbrev pub Text : Type 0
Text = List ℕ

-- the table in which a key stands
abbrev pub table_of : MachineKey → Text
table_of key.TorusSizes = codes "torus"
table_of key.TorusPerNode = codes "torus"
table_of key.PlaceKind = codes "place"
table_of key.PlaceList = codes "place"
table_of key.SpeedNum = codes "speed"
table_of key.SpeedDen = codes "speed"
table_of key.LatencySelf = codes "latency"
table_of key.LatencyLocal = codes "latency"
table_of key.LatencyBase = codes "latency"
table_of key.LatencyHop = codes "latency"
table_of key.LatencyBytesNum = codes "latency"
table_of key.LatencyBytesDen = codes "latency"

-- its name there
abbrev pub name_of : MachineKey → Text
name_of key.TorusSizes = codes "sizes"
name_of key.TorusPerNode = codes "per_node"
name_of key.PlaceKind = codes "kind"
name_of key.PlaceList = codes "list"
name_of key.SpeedNum = codes "num"
name_of key.SpeedDen = codes "den"
name_of key.LatencySelf = codes "self"
name_of key.LatencyLocal = codes "local"
name_of key.LatencyBase = codes "base"
name_of key.LatencyHop = codes "hop"
name_of key.LatencyBytesNum = codes "bytes_num"
name_of key.LatencyBytesDen = codes "bytes_den"

-- all keys, in the order in which they are refused
abbrev pub all_keys : List MachineKey
all_keys = key.TorusSizes ∷ key.TorusPerNode ∷ key.PlaceKind ∷ key.PlaceList ∷ key.SpeedNum ∷ key.SpeedDen
    ∷ key.LatencySelf ∷ key.LatencyLocal ∷ key.LatencyBase ∷ key.LatencyHop ∷ key.LatencyBytesNum ∷ key.LatencyBytesDen ∷ []

-- some key stands in a table of this name
abbrev pub is_table_name : Text → Bool
is_table_name table = list_any (λ k. bytes_eq table (table_of k)) all_keys

-- some key has this name in this table
abbrev pub is_key_name : Text → Text → Bool
is_key_name table name = list_any (λ k. bytes_eq table (table_of k) && bytes_eq name (name_of k)) all_keys

abbrev pub are_key_names : Text → Members → Bool
are_key_names table no_members = true
are_key_names table (member name value rest) = is_key_name table name && are_key_names table rest

abbrev pub is_known_table : Text → Option Members → Bool
is_known_table table None = false
is_known_table table (Some members) = is_table_name table && are_key_names table members

-- each member of the file is one of its tables and holds that table's keys alone
abbrev pub are_known_tables : Members → Bool
are_known_tables no_members = true
are_known_tables (member table value rest) = is_known_table table (as_table value) && are_known_tables rest
