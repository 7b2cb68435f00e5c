use Rattle.bs_top.specs.Inputs.{checked}
use Rattle.bs_top.specs.Step.{Told}
use Rattle.bs_top.specs.Stopped.{stopped_for_check}
use Rattle.bs_top.proofs.Replying.{nothing}
use Rattle.bs_top.proofs.Simulating.{is_accepted, is_refused}
use Rattle.bs_top.proofs.Stages.{at_stop}
use Rattle.bs_top.proofs.inputs.accept.Goals as goal

pub returns-in_err-check-clause-told : goal.returns-in_err-check-clause-told
returns-in_err-check-clause-told c =
    at_stop (Told nothing (checked c.args.program)) (stopped_for_check c.in_err-check.field-0.0) c.from_residual.result c.from_residual.ensures.1
    (is_refused c.args.program c.in_err-check.field-0.0 c.in_err-check.ensures.err)

pub returns-clause-told : goal.returns-clause-told
returns-clause-told c = is_accepted c.args.program c.in_ok-check.ensures.ok
