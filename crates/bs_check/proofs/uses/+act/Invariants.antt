use Rattle.std.proofs.Common.{drop}
use Rattle.bs_tree.specs.Reads.{any_act_reads, any_act_writes}
use Rattle.bs_check.proofs.Rows.{Left}
use Rattle.bs_check.proofs.uses.+act.Given as goal

abbrev pub invariant-note_acts-loop-act : goal.invariant-note_acts-loop-act
invariant-note_acts-loop-act l = Left l.fn.touches l.touches (λ n. any_act_reads n (drop l.act-index l.act-items)) (λ n. any_act_writes n (drop l.act-index l.act-items)) (λ n. any_act_reads n l.acts) (λ n. any_act_writes n l.acts)
