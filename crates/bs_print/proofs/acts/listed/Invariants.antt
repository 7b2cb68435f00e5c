use Rattle.std.proofs.Common.{◌≡◌, ◌++◌, map, drop}
use Rattle.bs_print.specs.Canonical.{spaced_items}
use Rattle.bs_print.specs.Expressions.{expression_items}
use Rattle.bs_print.specs.Statements.{with_commas, after_commas}
use Rattle.bs_print.proofs.acts.listed.Given as goal

abbrev pub invariant-loop-value : goal.invariant-loop-value
invariant-loop-value l =
    l.text.items ++ spaced_items l.names (after_commas (map expression_items (drop l.value-index l.rest))) ≡ l.fn.text.items ++ spaced_items l.fn.names (with_commas (map expression_items l.fn.values))
