use Rattle.bs_top.specs.Inputs.{log_in}
use Rattle.bs_top.specs.Step.{Told}
use Rattle.bs_top.specs.Stopped.{stopped_for_log}
use Rattle.bs_top.proofs.Foretelling.{bad_log}
use Rattle.bs_top.proofs.Simulating.{this_log}
use Rattle.bs_top.proofs.Stages.{at_stop}
use Rattle.bs_top.proofs.inputs.log_of_text.Goals as goal

pub returns-in_err-read_log-clause-told : goal.returns-in_err-read_log-clause-told
returns-in_err-read_log-clause-told c =
    at_stop (Told this_log (log_in c.args.text.now)) (stopped_for_log c.in_err-read_log.field-0.0) c.from_residual.result c.from_residual.ensures.1
    (bad_log c.args.text.now c.in_err-read_log.field-0.0 c.in_err-read_log.ensures.err)

pub returns-clause-told : goal.returns-clause-told
unfolding log_in
returns-clause-told c = c.in_ok-read_log.ensures.ok
