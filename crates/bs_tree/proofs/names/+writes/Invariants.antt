use Rattle.std.proofs.Common.{◌≡◌, drop}
use Rattle.bs_tree.specs.Reads.{any_stmt_writes}
use Rattle.bs_tree.proofs.names.+writes.Given as goal

abbrev pub invariant-body_writes-loop-stmt : goal.invariant-body_writes-loop-stmt
invariant-body_writes-loop-stmt l = any_stmt_writes l.name (drop l.stmt-index l.stmt-items) ≡ any_stmt_writes l.name l.body
