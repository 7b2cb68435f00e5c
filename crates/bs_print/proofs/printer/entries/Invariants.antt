use Rattle.std.proofs.Common.{◌≡◌, ◌++◌, drop}
use Rattle.bs_print.specs.Canonical.{spaced_items}
use Rattle.bs_print.specs.Statements.{entries_items}
use Rattle.bs_print.proofs.printer.entries.Given as goal

abbrev pub invariant-loop-next : goal.invariant-loop-next
invariant-loop-next l =
    l.text.items ++ spaced_items l.names (entries_items (drop l.next-index l.entries)) ≡ l.fn.text.items ++ spaced_items l.fn.names (entries_items l.fn.entries)
