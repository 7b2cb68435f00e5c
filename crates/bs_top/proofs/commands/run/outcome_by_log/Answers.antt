use Rattle.std.proofs.Common.{Err, Ok, ap, subst, sym, ◌∙◌}
use Rattle.bs_machine.specs.Machine.{machine_view}
use Rattle.bs_machine.specs.declared.fitted.Fitted.{Fitted}
use Rattle.bs_settle.specs.declared.times.Times.{Times}
use Rattle.bs_top.specs.Inputs.{fits}
use Rattle.bs_top.specs.Reports.{outcome_on, this_outcome}
use Rattle.bs_top.specs.commands.Run.{by_log}
use Rattle.bs_top.specs.Waves.{within}
use Rattle.bs_top.specs.Step.{Told}
use Rattle.bs_top.proofs.AsModel.{chares_logged}
use Rattle.bs_top.proofs.Waving.{no_log_run, runs, spent_run, unfit_run}
use Rattle.bs_top.proofs.Stages.{at_stop}
use Rattle.bs_top.proofs.commands.run.outcome_by_log.Goals as goal

pub returns-in_err-fitted-clause-told : goal.returns-in_err-fitted-clause-told
returns-in_err-fitted-clause-told c =
    let p = c.args.accepted.now.program in
    let m = machine_view c.args.machine in
    let last = outcome_on p m c.args.limit in
    let stop = c.in_err-fitted.field-0.0 in
    at_stop (Told this_outcome (by_log c.args.waves p m c.args.limit last)) stop c.from_residual.result c.from_residual.ensures.1
    (unfit_run this_outcome c.args.waves p m c.args.limit last stop (subst (λ n. Told (λ (f : Fitted). tt) (fits n m) (Err stop)) c.chares.ensures c.in_err-fitted.ensures.told))

pub returns-in_err-log-clause-told : goal.returns-in_err-log-clause-told
returns-in_err-log-clause-told c =
    let p = c.args.accepted.now.program in
    let m = machine_view c.args.machine in
    let last = outcome_on p m c.args.limit in
    let stop = c.in_err-log.field-0.0 in
    let fit = subst (λ n. fits n m (Ok tt)) c.chares.ensures c.in_ok-fitted.ensures.told in
    at_stop (Told this_outcome (by_log c.args.waves p m c.args.limit last)) stop c.from_residual-in_err-log.result c.from_residual-in_err-log.ensures.1
    (no_log_run this_outcome c.args.waves p m c.args.limit last fit stop c.in_err-log.ensures.told)

pub times_within-requires-clause-chares : goal.times_within-requires-clause-chares
times_within-requires-clause-chares c =
    c.in_ok-fitted.ensures.fitted.1 ∙ (c.chares.ensures ∙ sym (chares_logged c.args.accepted.now.program c.args.limit c.in_ok-log.log c.in_ok-log.ensures.told))

pub returns-in_err-times-clause-told : goal.returns-in_err-times-clause-told
returns-in_err-times-clause-told c =
    let p = c.args.accepted.now.program in
    let m = machine_view c.args.machine in
    let last = outcome_on p m c.args.limit in
    let stop = c.in_err-times.field-0.0 in
    let fit = subst (λ n. fits n m (Ok tt)) c.chares.ensures c.in_ok-fitted.ensures.told in
    at_stop (Told this_outcome (by_log c.args.waves p m c.args.limit last)) stop c.from_residual-in_err-times.result c.from_residual-in_err-times.ensures.1
    (spent_run this_outcome c.args.waves p m c.args.limit last fit c.in_ok-log.log c.in_ok-log.ensures.told stop
    (subst (λ k. Told (λ (t : Times). tt) (within c.args.waves c.in_ok-log.log (machine_view k)) (Err stop)) c.in_ok-fitted.ensures.fitted.0 c.in_err-times.ensures.told))

pub serial_outcome-requires-clause-chares : goal.serial_outcome-requires-clause-chares
serial_outcome-requires-clause-chares c = c.in_ok-fitted.ensures.fitted.1 ∙ c.chares.ensures

pub returns-clause-told : goal.returns-clause-told
returns-clause-told c =
    let p = c.args.accepted.now.program in
    let m = machine_view c.args.machine in
    let fit = subst (λ n. fits n m (Ok tt)) c.chares.ensures c.in_ok-fitted.ensures.told in
    let enough = subst (λ k. within c.args.waves c.in_ok-log.log (machine_view k) (Ok tt)) c.in_ok-fitted.ensures.fitted.0 c.in_ok-times.ensures.told in
    runs this_outcome c.args.waves p m c.args.limit (outcome_on p m c.args.limit) fit c.in_ok-log.log c.in_ok-log.ensures.told enough c.in_ok-serial_outcome.field-0 (record {
      fitted = c.in_ok-fitted.fitted;
      is_machine = ap machine_view c.in_ok-fitted.ensures.fitted.0;
      is_fitted = c.in_ok-fitted.ensures.fitted.1 ∙ c.chares.ensures;
      is_outcome = c.in_ok-serial_outcome.ensures.serial;
    })
