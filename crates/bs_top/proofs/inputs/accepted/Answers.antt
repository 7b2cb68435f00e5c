use Rattle.std.proofs.Common.{refl, subst, Err}
use Rattle.bs_top.specs.Inputs.{accepted, program_in}
use Rattle.bs_top.specs.Step.{Told}
use Rattle.bs_top.proofs.Replying.{accepts, no_program, no_text, program_of}
use Rattle.bs_top.proofs.Simulating.{itself}
use Rattle.bs_top.proofs.Stages.{at_stop, each}
use Rattle.bs_top.proofs.inputs.accepted.Goals as goal

pub returns-in_err-text-clause-told : goal.returns-in_err-text-clause-told
returns-in_err-text-clause-told g c =
    let old = (g.D.Desk.world c.args.desk.now).files in
    each old old _ _ refl (λ files h.
    at_stop (Told program_of (accepted files c.args.name.now)) c.in_err-text.field-0.0 c.from_residual.result c.from_residual.ensures.1
    (no_text files c.args.name.now c.in_err-text.field-0.0 h)) c.in_err-text.ensures.told

pub returns-in_err-program-clause-told : goal.returns-in_err-program-clause-told
returns-in_err-program-clause-told g c =
    let old = (g.D.Desk.world c.args.desk.now).files in
    each old old _ _ refl (λ files h.
    at_stop (Told program_of (accepted files c.args.name.now)) c.in_err-program.field-0.0 c.from_residual-in_err-program.result c.from_residual-in_err-program.ensures.1
    (no_program files c.args.name.now c.in_ok-text.text.items h c.in_err-program.field-0.0
    (subst (λ t. Told itself (program_in t) (Err c.in_err-program.field-0.0)) c.as_slice.ensures.value c.in_err-program.ensures.told))) c.in_ok-text.ensures.told

pub returns-clause-told : goal.returns-clause-told
returns-clause-told g c =
    let old = (g.D.Desk.world c.args.desk.now).files in
    each old old _ _ refl (λ files h.
    accepts files c.args.name.now c.in_ok-text.text.items h c.in_ok-program.program (rw c.as_slice.ensures.value at c.in_ok-program.ensures.told)
    c.accept.result c.accept.ensures.program c.accept.ensures.told) c.in_ok-text.ensures.told
