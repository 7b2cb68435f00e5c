use Rattle.std.proofs.Common.{false, drop}
use Rattle.bs_tree.specs.Reads.{any_named}
use Rattle.bs_check.proofs.Rows.{Left}
use Rattle.bs_check.proofs.uses.note_params.Given as goal

abbrev pub invariant-loop-param : goal.invariant-loop-param
invariant-loop-param l = Left l.fn.touches l.touches (λ n. false) (λ n. any_named n (drop l.param-index l.param-items)) (λ n. false) (λ n. any_named n l.params)
