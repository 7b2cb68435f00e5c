use Rattle.bs_machine.specs.Machine.{machine_view}
use Rattle.bs_machine.specs.declared.fitted.Fitted.{Fitted}
use Rattle.bs_top.specs.Inputs.{fits}
use Rattle.bs_top.specs.Step.{Told}
use Rattle.bs_top.specs.Stopped.{stopped_for_place}
use Rattle.bs_top.proofs.Machines.{is_fit, is_unfit}
use Rattle.bs_top.proofs.Stages.{at_stop}
use Rattle.bs_top.proofs.inputs.fit.Goals as goal

pub returns-in_err-fit-clause-told : goal.returns-in_err-fit-clause-told
returns-in_err-fit-clause-told c =
    let why = c.in_err-fit.ensures.length in
    at_stop (Told (λ (f : Fitted). tt) (fits c.args.chares (machine_view c.args.machine))) (stopped_for_place c.in_err-fit.field-0.0) c.from_residual.result c.from_residual.ensures.1
    (is_unfit c.args.chares c.args.machine c.in_err-fit.field-0.0 why.0 why.1 why.2)

pub returns-clause-told : goal.returns-clause-told
returns-clause-told c = is_fit c.args.chares c.args.machine c.in_ok-fit.field-0 c.in_ok-fit.ensures.ok.0 c.in_ok-fit.ensures.ok.1
