use Rattle.std.proofs.Common.{◌≡◌, ◌++◌, map, drop}
use Rattle.bs_print.specs.Canonical.{spaced_items}
use Rattle.bs_print.specs.Statements.{with_commas, after_commas, wait_items}
use Rattle.bs_print.proofs.statements.waits.Given as goal

abbrev pub invariant-loop-next : goal.invariant-loop-next
invariant-loop-next l =
    l.text.items ++ spaced_items l.names (after_commas (map wait_items (drop l.next-index l.rest))) ≡ l.fn.text.items ++ spaced_items l.fn.names (with_commas (map wait_items l.fn.list))
