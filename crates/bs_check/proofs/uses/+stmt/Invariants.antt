use Rattle.std.proofs.Common.{drop}
use Rattle.bs_tree.specs.Reads.{any_stmt_reads, any_stmt_writes}
use Rattle.bs_check.proofs.Rows.{Left}
use Rattle.bs_check.proofs.uses.+stmt.Given as goal

abbrev pub invariant-note_body-loop-stmt : goal.invariant-note_body-loop-stmt
invariant-note_body-loop-stmt l = Left l.fn.touches l.touches (λ n. any_stmt_reads n (drop l.stmt-index l.stmt-items)) (λ n. any_stmt_writes n (drop l.stmt-index l.stmt-items)) (λ n. any_stmt_reads n l.body) (λ n. any_stmt_writes n l.body)
