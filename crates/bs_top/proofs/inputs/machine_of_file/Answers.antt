use Rattle.std.proofs.Common.{ap}
use Rattle.bs_machine.specs.File.{machine_in}
use Rattle.bs_machine.specs.Machine.{machine_view}
use Rattle.bs_top.specs.Inputs.{or_bad_machine}
use Rattle.bs_top.specs.Step.{Told, gives}
use Rattle.bs_top.specs.Stopped.{stopped_for_machine}
use Rattle.bs_top.proofs.Machines.{bad_machine}
use Rattle.bs_top.proofs.Stages.{at_stop}
use Rattle.bs_top.proofs.inputs.machine_of_file.Goals as goal

pub returns-in_err-read_machine-clause-told : goal.returns-in_err-read_machine-clause-told
returns-in_err-read_machine-clause-told c =
    let m = machine_in c.args.bytes.now in
    at_stop (Told machine_view (gives (or_bad_machine m))) (stopped_for_machine c.in_err-read_machine.field-0.0) c.from_residual.result c.from_residual.ensures.1 (bad_machine m c.in_err-read_machine.field-0.0 c.in_err-read_machine.ensures.err)

pub returns-clause-told : goal.returns-clause-told
returns-clause-told c = ap or_bad_machine c.in_ok-read_machine.ensures.ok
