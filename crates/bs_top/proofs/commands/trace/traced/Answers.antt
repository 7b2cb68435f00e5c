use Rattle.std.proofs.Common.{None, Ok, Err, subst}
use Rattle.bs_machine.specs.Machine.{machine_view}
use Rattle.bs_settle.specs.declared.times.Times.{Times}
use Rattle.bs_top.specs.commands.Trace.{trace_on, traced}
use Rattle.bs_top.specs.Waves.{within}
use Rattle.bs_top.specs.Seen.{said_of}
use Rattle.bs_top.specs.Step.{Told}
use Rattle.bs_top.proofs.Foretelling.{traces, unbound_trace, unfit_trace}
use Rattle.bs_top.proofs.Stages.{at_stop}
use Rattle.bs_top.proofs.commands.trace.traced.Goals as goal

pub fit-requires : goal.fit-requires
fit-requires c = (c.requires.chares.least_is, c.requires.chares.most_is)

pub returns-in_err-fitted-clause-told : goal.returns-in_err-fitted-clause-told
returns-in_err-fitted-clause-told c =
    let m = machine_view c.args.machine in
    at_stop (Told said_of (traced c.args.log.now m)) c.in_err-fitted.field-0.0 c.from_residual.result c.from_residual.ensures.1
    (unfit_trace c.args.log.now m c.in_err-fitted.field-0.0 c.in_err-fitted.ensures.told)

pub returns-in_err-times-clause-told : goal.returns-in_err-times-clause-told
returns-in_err-times-clause-told c =
    let m = machine_view c.args.machine in
    at_stop (Told said_of (traced c.args.log.now m)) c.in_err-times.field-0.0 c.from_residual-in_err-times.result c.from_residual-in_err-times.ensures.1
    (unbound_trace c.args.log.now m c.in_err-times.field-0.0
    (subst (λ k. Told (λ (t : Times). tt) (within None c.args.log.now (machine_view k)) (Err c.in_err-times.field-0.0)) c.in_ok-fitted.ensures.fitted.0 c.in_err-times.ensures.told))

pub returns-clause-told : goal.returns-clause-told
returns-clause-told c =
    traces c.args.log.now (machine_view c.args.machine) c.in_ok-fitted.ensures.told (said_of c.in_ok-trace_at.field-0)
    (subst (λ k. trace_on c.args.log.now (machine_view k) (Ok (said_of c.in_ok-trace_at.field-0))) c.in_ok-fitted.ensures.fitted.0 c.in_ok-trace_at.ensures)
