use Rattle.std.proofs.Common.{refl, ap, Some, Err}
use Rattle.bs_desk.specs.Outside.{Outside}
use Rattle.bs_machine.specs.Machine.{machine_view}
use Rattle.bs_top.specs.Answer.{reply_to}
use Rattle.bs_top.specs.commands.Tune.{tuned}
use Rattle.bs_top.specs.Seen.{said_of}
use Rattle.bs_words.specs.Machine.{word_of}
use Rattle.bs_top.specs.Step.{Told}
use Rattle.bs_top.specs.Words.{tune}
use Rattle.bs_top.proofs.Foretelling.{no_log, no_machine, on_machine, told_tune}
use Rattle.bs_top.proofs.Stages.{at_stop, each, each_two}
use Rattle.bs_top.proofs.commands.tune.tune.Goals as goal

pub returns-in_err-log-clause-told : goal.returns-in_err-log-clause-told
returns-in_err-log-clause-told g c =
    let old = (g.D.Desk.world c.args.desk.now).files in
    let name = c.args.name.now in
    let word = word_of c.args.word in
    let tuning = c.args.tuning in
    let spans = c.args.spans in
    let stop = c.in_err-log.field-0.0 in
    each old old _ _ refl (λ files h.
    at_stop (Told said_of (reply_to files (Some (tune name word tuning spans)))) stop c.from_residual.result c.from_residual.ensures.1
    (told_tune files name word tuning spans (Err stop) (no_log files name word (tuned tuning spans) stop h))) c.in_err-log.ensures.told

pub returns-in_err-machine-clause-told : goal.returns-in_err-machine-clause-told
returns-in_err-machine-clause-told g c =
    let old = (g.D.Desk.world c.args.desk.now).files in
    let mid = (g.D.Desk.world c.log_named.new.desk).files in
    let name = c.args.name.now in
    let word = word_of c.args.word in
    let tuning = c.args.tuning in
    let spans = c.args.spans in
    let stop = c.in_err-machine.field-0.0 in
    each_two old mid _ _ _ (ap (λ (o : Outside). o.files) c.in_ok-log.ensures.reading) (λ files h k.
    at_stop (Told said_of (reply_to files (Some (tune name word tuning spans)))) stop c.from_residual-in_err-machine.result c.from_residual-in_err-machine.ensures.1
    (told_tune files name word tuning spans (Err stop) (no_machine files name word (tuned tuning spans) c.in_ok-log.log h stop k))) c.in_ok-log.ensures.told c.in_err-machine.ensures.told

pub returns-clause-told : goal.returns-clause-told
returns-clause-told g c =
    let old = (g.D.Desk.world c.args.desk.now).files in
    let mid = (g.D.Desk.world c.log_named.new.desk).files in
    let name = c.args.name.now in
    let m = machine_view c.in_ok-machine.machine in
    let word = word_of c.args.word in
    let tuning = c.args.tuning in
    let spans = c.args.spans in
    each_two old mid _ _ _ (ap (λ (o : Outside). o.files) c.in_ok-log.ensures.reading) (λ files h k.
    told_tune files name word tuning spans c.tuned.result
    (on_machine files name word (tuned tuning spans) c.in_ok-log.log h m c.tuned.result k c.tuned.ensures.told)) c.in_ok-log.ensures.told c.in_ok-machine.ensures.told
