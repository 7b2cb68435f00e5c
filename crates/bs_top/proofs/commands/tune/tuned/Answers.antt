use Rattle.std.proofs.Common.{Ok, subst}
use Rattle.bs_machine.specs.Machine.{machine_view}
use Rattle.bs_top.specs.commands.Tune.{tune_on, tuned}
use Rattle.bs_top.specs.Seen.{said_of}
use Rattle.bs_top.specs.Step.{Told}
use Rattle.bs_top.proofs.Foretelling.{tunes, unfit_tune}
use Rattle.bs_top.proofs.Stages.{at_stop}
use Rattle.bs_top.proofs.commands.tune.tuned.Goals as goal

pub fit-requires : goal.fit-requires
fit-requires c = (c.requires.valid.chares.least_is, c.requires.valid.chares.most_is)

pub returns-in_err-fitted-clause-told : goal.returns-in_err-fitted-clause-told
returns-in_err-fitted-clause-told c =
    let m = machine_view c.args.machine in
    at_stop (Told said_of (tuned c.args.tuning c.args.spans c.args.log.now m)) c.in_err-fitted.field-0.0 c.from_residual.result c.from_residual.ensures.1
    (unfit_tune c.args.log.now m c.args.tuning c.args.spans c.in_err-fitted.field-0.0 c.in_err-fitted.ensures.told)

pub returns-clause-told : goal.returns-clause-told
returns-clause-told c =
    tunes c.args.log.now (machine_view c.args.machine) c.in_ok-fitted.ensures.told c.args.tuning c.args.spans (said_of c.in_ok-tuned_on.field-0)
    (subst (λ k. tune_on c.args.tuning c.args.spans c.args.log.now (machine_view k) (Ok (said_of c.in_ok-tuned_on.field-0))) c.in_ok-fitted.ensures.fitted.0 c.in_ok-tuned_on.ensures)
