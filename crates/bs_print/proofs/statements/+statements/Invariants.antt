use Rattle.std.proofs.Common.{◌≡◌, ◌++◌, drop}
use Rattle.bs_print.specs.Canonical.{spaced_items}
use Rattle.bs_print.specs.Statements.{statements_items}
use Rattle.bs_print.proofs.statements.+statements.Given as goal

abbrev pub invariant-statements-loop-next : goal.invariant-statements-loop-next
invariant-statements-loop-next l =
    l.text.items ++ spaced_items l.names (statements_items (drop l.next-index l.body)) ≡ l.fn.text.items ++ spaced_items l.fn.names (statements_items l.fn.body)
