use Rattle.std.proofs.Common.{Ok, Err, ap, subst, ◌∙◌}
use Rattle.bs_machine.specs.Machine.{machine_view}
use Rattle.bs_settle.specs.declared.times.Times.{Times}
use Rattle.bs_top.specs.commands.Predict.{predicted}
use Rattle.bs_top.specs.Reports.{reported}
use Rattle.bs_top.specs.Waves.{within}
use Rattle.bs_top.specs.Seen.{said_of}
use Rattle.bs_top.specs.Step.{Told}
use Rattle.bs_top.proofs.Foretelling.{foretells, spends, unfit_for}
use Rattle.bs_top.proofs.Stages.{at_stop}
use Rattle.bs_top.proofs.commands.predict.predicted.Goals as goal

pub fit-requires : goal.fit-requires
fit-requires c = (c.requires.valid.chares.least_is, c.requires.valid.chares.most_is)

pub returns-in_err-fitted-clause-told : goal.returns-in_err-fitted-clause-told
returns-in_err-fitted-clause-told c =
    let m = machine_view c.args.machine in
    at_stop (Told said_of (predicted c.args.waves c.args.log.now m)) c.in_err-fitted.field-0.0 c.from_residual.result c.from_residual.ensures.1
    (unfit_for c.args.log.now m c.args.waves c.in_err-fitted.field-0.0 c.in_err-fitted.ensures.told)

pub returns-in_err-times-clause-told : goal.returns-in_err-times-clause-told
returns-in_err-times-clause-told c =
    let m = machine_view c.args.machine in
    at_stop (Told said_of (predicted c.args.waves c.args.log.now m)) c.in_err-times.field-0.0 c.from_residual-in_err-times.result c.from_residual-in_err-times.ensures.1
    (spends c.args.log.now m c.in_ok-fitted.ensures.told c.args.waves c.in_err-times.field-0.0
    (subst (λ k. Told (λ (t : Times). tt) (within c.args.waves c.args.log.now (machine_view k)) (Err c.in_err-times.field-0.0)) c.in_ok-fitted.ensures.fitted.0 c.in_err-times.ensures.told))

pub returns-clause-told : goal.returns-clause-told
returns-clause-told c =
    let m = machine_view c.args.machine in
    let is = c.in_ok-outcome.ensures.value in
    let enough = subst (λ k. within c.args.waves c.args.log.now (machine_view k) (Ok tt)) c.in_ok-fitted.ensures.fitted.0 c.in_ok-times.ensures.told in
    foretells c.args.log.now m c.in_ok-fitted.ensures.told c.args.waves enough (said_of c.in_ok-report_of.field-0) (record {
      fitted = c.in_ok-fitted.fitted;
      starts = is.0;
      is_machine = ap machine_view c.in_ok-fitted.ensures.fitted.0;
      is_fitted = c.in_ok-fitted.ensures.fitted.1;
      is_consistent = is.1;
      is_said = c.in_ok-report_of.ensures ∙ ap reported is.2;
    })
