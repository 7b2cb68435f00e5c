use Rattle.std.proofs.Common.{◌≡◌, drop}
use Rattle.bs_tree.specs.Reads.{any_wait_reads}
use Rattle.bs_tree.proofs.names.waits_read.Given as goal

abbrev pub invariant-loop-wait : goal.invariant-loop-wait
invariant-loop-wait l = any_wait_reads l.name (drop l.wait-index l.wait-items) ≡ any_wait_reads l.name l.waits
