use Rattle.std.proofs.Common.{refl, Some, ap, ◌∙◌}
use Rattle.bs_top.specs.commands.Check.{printed}
use Rattle.bs_top.specs.Answer.{reply_to}
use Rattle.bs_top.specs.Seen.{said_of}
use Rattle.bs_top.specs.Step.{Told}
use Rattle.bs_top.specs.Words.{check}
use Rattle.bs_top.proofs.Replying.{not_accepted, prints}
use Rattle.bs_top.proofs.Stages.{at_stop, each}
use Rattle.bs_top.proofs.commands.check.check_text.Goals as goal

pub returns-in_err-accepted-clause-told : goal.returns-in_err-accepted-clause-told
returns-in_err-accepted-clause-told g c =
    let old = (g.D.Desk.world c.args.desk.now).files in
    let name = c.args.name.now in
    each old old _ _ refl (λ files h.
    at_stop (Told said_of (reply_to files (Some (check name)))) c.in_err-accepted.field-0.0 c.from_residual.result c.from_residual.ensures.1
    (not_accepted files name (check name) c.in_err-accepted.field-0.0 refl h)) c.in_err-accepted.ensures.told

pub returns-clause-told : goal.returns-clause-told
returns-clause-told g c =
    let old = (g.D.Desk.world c.args.desk.now).files in
    each old old _ _ refl (λ files h.
    prints files c.args.name.now c.in_ok-accepted.accepted.program h (said_of c.in_ok-printed.field-0)
    (c.in_ok-printed.ensures ∙ ap printed c.program.ensures.value)) c.in_ok-accepted.ensures.told
