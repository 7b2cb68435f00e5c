use Rattle.std.proofs.Common.{◌≡◌}
use Rattle.toml.specs.View.{members_view}
use Rattle.bs_machine.specs.Keys.{are_known_tables}
use Rattle.bs_machine.proofs.names.knows_tables.Given as goal

abbrev pub invariant-loop-table : goal.invariant-loop-table
invariant-loop-table l =
    (goal.iterator-loop-table).can_next l.table-iterator ×
    (goal.iterator-loop-table).is_finite l.table-iterator ×
    (are_known_tables (members_view l.table-iterator) ≡ are_known_tables (members_view l.root.entries))
