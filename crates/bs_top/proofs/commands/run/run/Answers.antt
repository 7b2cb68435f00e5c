use Rattle.std.proofs.Common.{refl, ap, Some, Err}
use Rattle.bs_desk.specs.Outside.{Outside}
use Rattle.bs_machine.specs.Machine.{machine_view}
use Rattle.bs_top.specs.commands.Run.{ran}
use Rattle.bs_top.specs.Answer.{reply_to}
use Rattle.bs_top.specs.Seen.{said_of}
use Rattle.bs_words.specs.Machine.{word_of}
use Rattle.bs_top.specs.Step.{Told}
use Rattle.bs_top.specs.Words.{run}
use Rattle.bs_top.proofs.Replying.{not_accepted, no_machine, on_machine, told_run}
use Rattle.bs_top.proofs.Stages.{at_stop, each, each_two}
use Rattle.bs_top.proofs.commands.run.run.Goals as goal

pub returns-in_err-accepted-clause-told : goal.returns-in_err-accepted-clause-told
returns-in_err-accepted-clause-told g c =
    let old = (g.D.Desk.world c.args.desk.now).files in
    let name = c.args.name.now in
    let word = word_of c.args.word in
    each old old _ _ refl (λ files h.
    at_stop (Told said_of (reply_to files (Some (run name word c.args.limit c.args.waves)))) c.in_err-accepted.field-0.0 c.from_residual.result c.from_residual.ensures.1
    (not_accepted files name (run name word c.args.limit c.args.waves) c.in_err-accepted.field-0.0 refl h)) c.in_err-accepted.ensures.told

pub returns-in_err-machine-clause-told : goal.returns-in_err-machine-clause-told
returns-in_err-machine-clause-told g c =
    let old = (g.D.Desk.world c.args.desk.now).files in
    let mid = (g.D.Desk.world c.accepted.new.desk).files in
    let name = c.args.name.now in
    let word = word_of c.args.word in
    let stop = c.in_err-machine.field-0.0 in
    each_two old mid _ _ _ (ap (λ (o : Outside). o.files) c.in_ok-accepted.ensures.reading) (λ files h k.
    at_stop (Told said_of (reply_to files (Some (run name word c.args.limit c.args.waves)))) stop c.from_residual-in_err-machine.result c.from_residual-in_err-machine.ensures.1
    (told_run files name word c.args.limit c.args.waves (Err stop)
    (no_machine files name c.in_ok-accepted.accepted.program h word (λ p m. ran c.args.waves p m c.args.limit) stop k))) c.in_ok-accepted.ensures.told c.in_err-machine.ensures.told

pub returns-clause-told : goal.returns-clause-told
returns-clause-told g c =
    let old = (g.D.Desk.world c.args.desk.now).files in
    let mid = (g.D.Desk.world c.accepted.new.desk).files in
    let m = machine_view c.in_ok-machine.machine in
    let name = c.args.name.now in
    let word = word_of c.args.word in
    each_two old mid _ _ _ (ap (λ (o : Outside). o.files) c.in_ok-accepted.ensures.reading) (λ files h k.
    told_run files name word c.args.limit c.args.waves c.run_log.result
    (on_machine files name c.in_ok-accepted.accepted.program h word (λ p m. ran c.args.waves p m c.args.limit) m c.run_log.result k
    c.run_log.ensures.told)) c.in_ok-accepted.ensures.told c.in_ok-machine.ensures.told
