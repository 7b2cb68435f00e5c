use Rattle.std.proofs.Common.{◌≡◌, ◌&&◌, drop}
use Rattle.std.specs.List.{list_any}
use Rattle.std.specs.Str.{bytes_eq}
use Rattle.bs_machine.specs.Keys.{is_key_name, table_of, name_of}
use Rattle.bs_machine.proofs.names.names_key.Given as goal

abbrev pub invariant-loop-key : goal.invariant-loop-key
invariant-loop-key l =
    list_any (λ k. bytes_eq l.table (table_of k) && bytes_eq l.name (name_of k)) (drop l.key-index l.key-items) ≡ is_key_name l.table l.name
