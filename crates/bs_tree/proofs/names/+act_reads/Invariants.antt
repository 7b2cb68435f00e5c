use Rattle.std.proofs.Common.{◌≡◌, drop}
use Rattle.bs_tree.specs.Reads.{any_act_reads}
use Rattle.bs_tree.proofs.names.+act_reads.Given as goal

abbrev pub invariant-acts_read-loop-act : goal.invariant-acts_read-loop-act
invariant-acts_read-loop-act l = any_act_reads l.name (drop l.act-index l.act-items) ≡ any_act_reads l.name l.acts
