use Rattle.std.proofs.Common.{Err, Ok}
use Rattle.bs_machine.specs.Machine.{machine_view}
use Rattle.bs_top.specs.Seen.{said_of}
use Rattle.bs_top.specs.Step.{Told}
use Rattle.bs_top.specs.commands.Run.{ran}
use Rattle.bs_top.proofs.Waving.{reports, stops_run}
use Rattle.bs_top.proofs.Stages.{at_stop}
use Rattle.bs_top.proofs.commands.run.run_log.Goals as goal

pub returns-in_err-outcome-clause-told : goal.returns-in_err-outcome-clause-told
returns-in_err-outcome-clause-told c =
    let p = c.args.accepted.now.program in
    let m = machine_view c.args.machine in
    let stop = c.in_err-outcome.field-0.0 in
    at_stop (Told said_of (ran c.args.waves p m c.args.limit)) stop c.from_residual.result c.from_residual.ensures.1
    (stops_run c.args.waves p m c.args.limit stop c.in_err-outcome.ensures.told)

pub returns-clause-told : goal.returns-clause-told
returns-clause-told c =
    reports c.args.waves c.args.accepted.now.program (machine_view c.args.machine) c.args.limit c.in_ok-outcome.outcome c.in_ok-outcome.ensures.told
    (said_of c.in_ok-report_of.field-0) c.in_ok-report_of.ensures
