use Rattle.std.proofs.Common.{refl}
use Rattle.bs_top.specs.Inputs.{log_named}
use Rattle.bs_top.specs.Step.{Told}
use Rattle.bs_top.proofs.Foretelling.{no_text, of_text}
use Rattle.bs_top.proofs.Simulating.{this_log}
use Rattle.bs_top.proofs.Stages.{at_stop, each}
use Rattle.bs_top.proofs.inputs.log_named.Goals as goal

pub returns-in_err-text-clause-told : goal.returns-in_err-text-clause-told
returns-in_err-text-clause-told g c =
    let old = (g.D.Desk.world c.args.desk.now).files in
    each old old _ _ refl (λ files h.
    at_stop (Told this_log (log_named files c.args.name.now)) c.in_err-text.field-0.0 c.from_residual.result c.from_residual.ensures.1
    (no_text files c.args.name.now c.in_err-text.field-0.0 h)) c.in_err-text.ensures.told

pub returns-clause-told : goal.returns-clause-told
returns-clause-told g c =
    let old = (g.D.Desk.world c.args.desk.now).files in
    each old old _ _ refl (λ files h.
    of_text files c.args.name.now c.in_ok-text.text.items c.log_of_text.result h (rw c.as_slice.ensures.value at c.log_of_text.ensures.told)) c.in_ok-text.ensures.told
