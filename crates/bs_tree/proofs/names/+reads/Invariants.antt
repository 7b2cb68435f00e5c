use Rattle.std.proofs.Common.{◌≡◌, drop}
use Rattle.bs_tree.specs.Reads.{any_stmt_reads}
use Rattle.bs_tree.proofs.names.+reads.Given as goal

abbrev pub invariant-body_reads-loop-stmt : goal.invariant-body_reads-loop-stmt
invariant-body_reads-loop-stmt l = any_stmt_reads l.name (drop l.stmt-index l.stmt-items) ≡ any_stmt_reads l.name l.body
