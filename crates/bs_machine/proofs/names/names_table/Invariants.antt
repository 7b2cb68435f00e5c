use Rattle.std.proofs.Common.{◌≡◌, drop}
use Rattle.std.specs.List.{list_any}
use Rattle.std.specs.Str.{bytes_eq}
use Rattle.bs_machine.specs.Keys.{is_table_name, table_of}
use Rattle.bs_machine.proofs.names.names_table.Given as goal

abbrev pub invariant-loop-key : goal.invariant-loop-key
invariant-loop-key l = list_any (λ k. bytes_eq l.table (table_of k)) (drop l.key-index l.key-items) ≡ is_table_name l.table
