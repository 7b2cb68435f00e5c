use Rattle.std.proofs.Common.{◌≡◌, ◌++◌, drop}
use Rattle.bs_print.specs.Canonical.{spaced_items}
use Rattle.bs_print.specs.Statements.{acts_items}
use Rattle.bs_print.proofs.acts.+acts.Given as goal

abbrev pub invariant-acts-loop-next : goal.invariant-acts-loop-next
invariant-acts-loop-next l =
    l.text.items ++ spaced_items l.names (acts_items (drop l.next-index l.acts)) ≡ l.fn.text.items ++ spaced_items l.fn.names (acts_items l.fn.acts)
