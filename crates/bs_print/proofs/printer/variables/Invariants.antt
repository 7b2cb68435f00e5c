use Rattle.std.proofs.Common.{◌≡◌, ◌++◌, drop}
use Rattle.bs_print.specs.Canonical.{spaced_items}
use Rattle.bs_print.specs.Statements.{variables_items}
use Rattle.bs_print.proofs.printer.variables.Given as goal

abbrev pub invariant-loop-var : goal.invariant-loop-var
invariant-loop-var l =
    l.text.items ++ spaced_items l.names (variables_items (drop l.var-index l.vars)) ≡ l.fn.text.items ++ spaced_items l.fn.names (variables_items l.fn.vars)
