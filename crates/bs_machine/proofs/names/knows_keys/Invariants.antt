use Rattle.std.proofs.Common.{◌≡◌}
use Rattle.toml.specs.View.{members_view}
use Rattle.bs_machine.specs.Keys.{are_key_names}
use Rattle.bs_machine.proofs.names.knows_keys.Given as goal

abbrev pub invariant-loop-name : goal.invariant-loop-name
invariant-loop-name l =
    (goal.iterator-loop-name).can_next l.name-iterator ×
    (goal.iterator-loop-name).is_finite l.name-iterator ×
    (are_key_names l.table (members_view l.name-iterator) ≡ are_key_names l.table (members_view l.members.entries))
