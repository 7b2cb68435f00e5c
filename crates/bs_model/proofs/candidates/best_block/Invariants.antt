use Rattle.bs_model.specs.Ready.{candidate_in}
use Rattle.bs_model.proofs.Choices.{BestBelow}
use Rattle.bs_model.proofs.candidates.best_block.Given as goal

abbrev pub invariant-loop-at : goal.invariant-loop-at
invariant-loop-at l = BestBelow (candidate_in l.machine l.book l.chare) l.blocks l.at l.best
