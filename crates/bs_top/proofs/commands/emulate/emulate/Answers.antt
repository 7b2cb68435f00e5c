use Rattle.std.proofs.Common.{refl, Some}
use Rattle.bs_top.specs.Answer.{reply_to}
use Rattle.bs_top.specs.Seen.{said_of}
use Rattle.bs_top.specs.Step.{Told}
use Rattle.bs_top.specs.Words.{emulate}
use Rattle.bs_top.proofs.Replying.{keeps_log, no_log, not_accepted}
use Rattle.bs_top.proofs.Stages.{at_stop, each}
use Rattle.bs_top.proofs.commands.emulate.emulate.Goals as goal

pub returns-in_err-accepted-clause-told : goal.returns-in_err-accepted-clause-told
returns-in_err-accepted-clause-told g c =
    let old = (g.D.Desk.world c.args.desk.now).files in
    let asked = emulate c.args.name.now c.args.into.now c.args.limit in
    each old old _ _ refl (λ files h.
    at_stop (Told said_of (reply_to files (Some asked))) c.in_err-accepted.field-0.0 c.from_residual.result c.from_residual.ensures.1
    (not_accepted files c.args.name.now asked c.in_err-accepted.field-0.0 refl h)) c.in_err-accepted.ensures.told

pub returns-in_err-log-clause-told : goal.returns-in_err-log-clause-told
returns-in_err-log-clause-told g c =
    let old = (g.D.Desk.world c.args.desk.now).files in
    let asked = emulate c.args.name.now c.args.into.now c.args.limit in
    each old old _ _ refl (λ files h.
    at_stop (Told said_of (reply_to files (Some asked))) c.in_err-log.field-0.0 c.from_residual-in_err-log.result c.from_residual-in_err-log.ensures.1
    (no_log files c.args.name.now c.in_ok-accepted.accepted.program h c.args.into.now c.args.limit c.in_err-log.field-0.0 c.in_err-log.ensures.told)) c.in_ok-accepted.ensures.told

pub returns-clause-told : goal.returns-clause-told
returns-clause-told g c =
    let old = (g.D.Desk.world c.args.desk.now).files in
    each old old _ _ refl (λ files h.
    keeps_log files c.args.name.now c.in_ok-accepted.accepted.program h c.args.into.now c.args.limit c.in_ok-log.log c.in_ok-kept.field-0
    c.in_ok-log.ensures.told c.in_ok-kept.ensures) c.in_ok-accepted.ensures.told
