use Rattle.std.proofs.Common.{refl, ap, subst, Err}
use Rattle.bs_desk.specs.Outside.{Outside}
use Rattle.bs_machine.specs.Machine.{machine_view}
use Rattle.bs_machine.specs.declared.fitted.Fitted.{Fitted}
use Rattle.bs_words.specs.Machine.{word_of}
use Rattle.bs_top.specs.Inputs.{fitting_machine}
use Rattle.bs_top.specs.Step.{Told}
use Rattle.bs_top.proofs.Stages.{at_stop, each}
use Rattle.bs_top.proofs.Sweeping.{fitted_or_not, not_named, same, view}
use Rattle.bs_top.proofs.inputs.fitting_machine.Goals as goal

pub returns-in_err-machine-clause-told : goal.returns-in_err-machine-clause-told
returns-in_err-machine-clause-told g c =
    let old = (g.D.Desk.world c.args.desk.now).files in
    let word = word_of c.args.word in
    let stop = c.in_err-machine.field-0.0 in
    each old old _ _ refl (λ files h.
    at_stop (Told view (fitting_machine files c.args.chares word)) stop c.from_residual.result c.from_residual.ensures.1
    (not_named files c.args.chares word stop h)) c.in_err-machine.ensures.told

pub returns-clause-told : goal.returns-clause-told
returns-clause-told g c =
    let old = (g.D.Desk.world c.args.desk.now).files in
    let word = word_of c.args.word in
    let m = machine_view c.in_ok-machine.machine in
    each old old _ _ refl (λ files h.
    fitted_or_not files c.args.chares word m c.fit.result h (same c.in_ok-machine.machine c.args.chares c.fit.result c.fit.ensures.fitted) c.fit.ensures.told) c.in_ok-machine.ensures.told
