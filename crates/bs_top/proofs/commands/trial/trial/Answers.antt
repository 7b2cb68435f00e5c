use Rattle.std.proofs.Common.{None, Err, Ok, subst, ◌∙◌}
use Rattle.bs_machine.specs.Machine.{machine_view}
use Rattle.bs_top.specs.Inputs.{program_in}
use Rattle.bs_top.specs.Reports.{outcome_on, this_outcome}
use Rattle.bs_top.specs.Seen.{said_of}
use Rattle.bs_top.specs.Step.{Told}
use Rattle.bs_top.specs.commands.Run.{by_log}
use Rattle.bs_top.specs.commands.Trial.{tried, trial_limit}
use Rattle.bs_top.proofs.Simulating.{itself}
use Rattle.bs_top.proofs.Stages.{at_stop}
use Rattle.bs_top.proofs.Trying.{no_machine, no_outcome, no_program, not_kept, tries}
use Rattle.bs_top.proofs.commands.trial.trial.Goals as goal

pub returns-in_err-program-clause-told : goal.returns-in_err-program-clause-told
returns-in_err-program-clause-told c =
    let g = c.args.generated in
    let stop = c.in_err-program.field-0.0 in
    at_stop (Told said_of (tried g)) stop c.from_residual-in_err-program.result c.from_residual-in_err-program.ensures.1
    (no_program g stop (subst (λ text. Told itself (program_in text) (Err stop)) (c.as_slice.ensures.value ∙ c.in_ok-text.ensures) c.in_err-program.ensures.told))

pub returns-in_err-accepted-clause-told : goal.returns-in_err-accepted-clause-told
returns-in_err-accepted-clause-told c =
    let g = c.args.generated in
    let p = c.in_ok-program.program in
    let stop = c.in_err-accepted.field-0.0 in
    let is_program = subst (λ text. program_in text (Ok p)) (c.as_slice.ensures.value ∙ c.in_ok-text.ensures) c.in_ok-program.ensures.told in
    at_stop (Told said_of (tried g)) stop c.from_residual-in_err-accepted.result c.from_residual-in_err-accepted.ensures.1
    (not_kept g p is_program stop c.in_err-accepted.ensures.told)

pub returns-in_err-machine-clause-told : goal.returns-in_err-machine-clause-told
returns-in_err-machine-clause-told c =
    let g = c.args.generated in
    let p = c.in_ok-program.program in
    let stop = c.in_err-machine.field-0.0 in
    let is_program = subst (λ text. program_in text (Ok p)) (c.as_slice.ensures.value ∙ c.in_ok-text.ensures) c.in_ok-program.ensures.told in
    at_stop (Told said_of (tried g)) stop c.from_residual-in_err-machine.result c.from_residual-in_err-machine.ensures.1
    (no_machine g p is_program c.in_ok-accepted.ensures.told stop c.in_err-machine.ensures.told)

pub returns-in_err-outcome-clause-told : goal.returns-in_err-outcome-clause-told
returns-in_err-outcome-clause-told c =
    let g = c.args.generated in
    let p = c.in_ok-program.program in
    let m = machine_view c.in_ok-machine.machine in
    let stop = c.in_err-outcome.field-0.0 in
    let is_program = subst (λ text. program_in text (Ok p)) (c.as_slice.ensures.value ∙ c.in_ok-text.ensures) c.in_ok-program.ensures.told in
    at_stop (Told said_of (tried g)) stop c.from_residual-in_err-outcome.result c.from_residual-in_err-outcome.ensures.1
    (no_outcome g p is_program c.in_ok-accepted.ensures.told m c.in_ok-machine.ensures.told stop
    (subst (λ q. Told this_outcome (by_log None q m trial_limit (outcome_on q m trial_limit)) (Err stop)) c.in_ok-accepted.ensures.program c.in_err-outcome.ensures.told))

pub returns-clause-told : goal.returns-clause-told
returns-clause-told c =
    let g = c.args.generated in
    let p = c.in_ok-program.program in
    let m = machine_view c.in_ok-machine.machine in
    let outcome = c.in_ok-outcome.outcome in
    let is_program = subst (λ text. program_in text (Ok p)) (c.as_slice.ensures.value ∙ c.in_ok-text.ensures) c.in_ok-program.ensures.told in
    tries g p is_program c.in_ok-accepted.ensures.told m c.in_ok-machine.ensures.told outcome
    (subst (λ q. by_log None q m trial_limit (outcome_on q m trial_limit) (Ok outcome)) c.in_ok-accepted.ensures.program c.in_ok-outcome.ensures.told)
    c.in_ok-trial_of.field-0 c.in_ok-trial_of.ensures
