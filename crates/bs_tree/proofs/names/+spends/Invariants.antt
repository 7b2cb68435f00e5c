use Rattle.std.proofs.Common.{◌≡◌, drop}
use Rattle.bs_tree.specs.Spends.{any_stmt_spends}
use Rattle.bs_tree.proofs.names.+spends.Given as goal

abbrev pub invariant-body_spends-loop-stmt : goal.invariant-body_spends-loop-stmt
invariant-body_spends-loop-stmt l = any_stmt_spends (drop l.stmt-index l.stmt-items) ≡ any_stmt_spends l.body
