use Rattle.std.proofs.Common.{drop}
use Rattle.bs_tree.specs.Reads.{any_wait_reads, any_wait_writes}
use Rattle.bs_check.proofs.Rows.{Left}
use Rattle.bs_check.proofs.uses.note_waits.Given as goal

abbrev pub invariant-loop-wait : goal.invariant-loop-wait
invariant-loop-wait l = Left l.fn.touches l.touches (λ n. any_wait_reads n (drop l.wait-index l.wait-items)) (λ n. any_wait_writes n (drop l.wait-index l.wait-items)) (λ n. any_wait_reads n l.waits) (λ n. any_wait_writes n l.waits)
