use Rattle.std.proofs.Common.{ap}
use Rattle.bs_machine.specs.Machine.{flat_in, machine_view}
use Rattle.bs_top.specs.Inputs.{or_bad_machine}
use Rattle.bs_top.specs.Step.{Told, gives}
use Rattle.bs_top.specs.Stopped.{stopped_for_machine}
use Rattle.bs_top.proofs.Machines.{bad_machine}
use Rattle.bs_top.proofs.Stages.{at_stop}
use Rattle.bs_top.proofs.inputs.flat_machine.Goals as goal

pub returns-in_err-flat-clause-told : goal.returns-in_err-flat-clause-told
returns-in_err-flat-clause-told c =
    let m = flat_in c.args.processors c.args.latency in
    at_stop (Told machine_view (gives (or_bad_machine m))) (stopped_for_machine c.in_err-flat.field-0.0) c.from_residual.result c.from_residual.ensures.1 (bad_machine m c.in_err-flat.field-0.0 c.in_err-flat.ensures.err)

pub returns-clause-told : goal.returns-clause-told
returns-clause-told c = ap or_bad_machine c.in_ok-flat.ensures.ok
