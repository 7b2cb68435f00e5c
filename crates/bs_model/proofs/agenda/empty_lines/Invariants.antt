use Rattle.bs_model.specs.Agenda.{is_idle}
use Rattle.bs_model.proofs.Pushing.{Pushed}
use Rattle.bs_model.proofs.agenda.empty_lines.Given as goal

abbrev pub invariant-loop-processor : goal.invariant-loop-processor
invariant-loop-processor l = Pushed (λ q o. is_idle o) l._processor l.lines.items
