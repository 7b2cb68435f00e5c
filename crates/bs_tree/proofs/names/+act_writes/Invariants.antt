use Rattle.std.proofs.Common.{◌≡◌, drop}
use Rattle.bs_tree.specs.Reads.{any_act_writes}
use Rattle.bs_tree.proofs.names.+act_writes.Given as goal

abbrev pub invariant-acts_write-loop-act : goal.invariant-acts_write-loop-act
invariant-acts_write-loop-act l = any_act_writes l.name (drop l.act-index l.act-items) ≡ any_act_writes l.name l.acts
