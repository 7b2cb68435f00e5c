use Rattle.std.proofs.Common.{◌≡◌, drop}
use Rattle.bs_tree.specs.Spends.{any_stmt_spends}
use Rattle.bs_check.proofs.statements.any_spends.Given as goal

abbrev pub invariant-loop-stmt : goal.invariant-loop-stmt
invariant-loop-stmt l = any_stmt_spends (drop l.stmt-index l.stmt-items) ≡ any_stmt_spends l.body
