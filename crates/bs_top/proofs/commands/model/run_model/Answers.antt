use Rattle.std.proofs.Common.{Err, Ok, ap, subst, ◌∙◌}
use Rattle.bs_log.specs.declared.outcome.Outcome.{Outcome}
use Rattle.bs_machine.specs.Machine.{machine_view}
use Rattle.bs_machine.specs.declared.fitted.Fitted.{Fitted}
use Rattle.bs_top.specs.Inputs.{fits}
use Rattle.bs_top.specs.commands.Model.{simulated}
use Rattle.bs_top.specs.Seen.{said_of}
use Rattle.bs_top.specs.Step.{Told}
use Rattle.bs_top.proofs.Simulating.{not_clean, ran, unfit}
use Rattle.bs_top.proofs.Stages.{at_stop}
use Rattle.bs_top.proofs.commands.model.run_model.Goals as goal

pub returns-in_err-fitted-clause-told : goal.returns-in_err-fitted-clause-told
returns-in_err-fitted-clause-told c =
    let p = c.args.accepted.now.program in
    let m = machine_view c.args.machine in
    let stop = c.in_err-fitted.field-0.0 in
    at_stop (Told said_of (simulated p m c.args.limit)) stop c.from_residual.result c.from_residual.ensures.1
    (unfit p m c.args.limit stop (subst (λ n. Told (λ (f : Fitted). tt) (fits n m) (Err stop)) c.chares.ensures c.in_err-fitted.ensures.told))

pub returns-in_err-outcome-clause-told : goal.returns-in_err-outcome-clause-told
returns-in_err-outcome-clause-told c =
    let p = c.args.accepted.now.program in
    let m = machine_view c.args.machine in
    let stop = c.in_err-outcome.field-0.0 in
    let fit = subst (λ n. fits n m (Ok tt)) c.chares.ensures c.in_ok-fitted.ensures.told in
    at_stop (Told said_of (simulated p m c.args.limit)) stop c.from_residual-in_err-outcome.result c.from_residual-in_err-outcome.ensures.1
    (not_clean p m c.args.limit fit (λ (o : Outcome). tt) stop c.in_err-outcome.ensures.told)

pub outcome_of-requires-clause-chares : goal.outcome_of-requires-clause-chares
outcome_of-requires-clause-chares c = c.in_ok-fitted.ensures.fitted.1 ∙ c.chares.ensures

pub returns-clause-told : goal.returns-clause-told
returns-clause-told c =
    let p = c.args.accepted.now.program in
    let m = machine_view c.args.machine in
    let said = said_of c.in_ok-report_of.field-0 in
    let fit = subst (λ n. fits n m (Ok tt)) c.chares.ensures c.in_ok-fitted.ensures.told in
    ran p m c.args.limit fit c.in_ok-outcome.ensures.told said (record {
      fitted = c.in_ok-fitted.fitted;
      outcome = c.in_ok-outcome.outcome;
      is_machine = ap machine_view c.in_ok-fitted.ensures.fitted.0;
      is_fitted = c.in_ok-fitted.ensures.fitted.1 ∙ c.chares.ensures;
      is_outcome = c.in_ok-outcome.ensures.serial;
      is_said = c.in_ok-report_of.ensures;
    })
