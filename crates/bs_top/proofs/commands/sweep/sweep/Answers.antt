use Rattle.std.proofs.Common.{refl, ap, ◌∙◌, sym, subst, [], map, Some, Ok, Err}
use Rattle.bs_desk.specs.Outside.{Outside}
use Rattle.bs_words.specs.Machine.{word_of}
use Rattle.bs_top.specs.Answer.{reply_to}
use Rattle.bs_top.specs.Seen.{AreFittedTo, said_of}
use Rattle.bs_top.specs.Step.{Told}
use Rattle.bs_top.specs.Words.{sweep, words_of}
use Rattle.bs_top.specs.commands.Sweep.{sweep_on, views}
use Rattle.bs_top.proofs.Stages.{at_stop, each, each_two}
use Rattle.bs_top.proofs.Sweeping.{as_asked, no_log, no_machines, sweeps}
use Rattle.bs_top.proofs.commands.sweep.sweep.Goals as goal

pub returns-in_err-log-clause-told : goal.returns-in_err-log-clause-told
returns-in_err-log-clause-told g c =
    let old = (g.D.Desk.world c.args.desk.now).files in
    let name = c.args.name.now in
    let words = words_of c.args.machines.now in
    let spans = c.args.spans in
    let stop = c.in_err-log.field-0.0 in
    each old old _ _ refl (λ files h.
    at_stop (Told said_of (reply_to files (Some (sweep name words spans)))) stop c.from_residual.result c.from_residual.ensures.1
    (no_log files name words spans stop h)) c.in_err-log.ensures.told

pub returns-in_err-machines-clause-told : goal.returns-in_err-machines-clause-told
returns-in_err-machines-clause-told g c =
    let old = (g.D.Desk.world c.args.desk.now).files in
    let mid = (g.D.Desk.world c.log_named.new.desk).files in
    let name = c.args.name.now in
    let words = words_of c.args.machines.now in
    let spans = c.args.spans in
    let log = c.in_ok-log.log in
    let stop = c.in_err-machines.field-0.0 in
    each_two old mid _ _ _ (ap (λ (o : Outside). o.files) c.in_ok-log.ensures.reading) (λ files h k.
    at_stop (Told said_of (reply_to files (Some (sweep name words spans)))) stop c.from_residual-in_err-machines.result c.from_residual-in_err-machines.ensures.1
    (no_machines files name words spans log h stop
    (as_asked files log.chares c.new.result.items c.as_slice.result.now words (Err stop) c.new.ensures.items (ap (map word_of) c.as_slice.ensures.value ∙ c.in_ok-words.ensures) k))) c.in_ok-log.ensures.told c.in_err-machines.ensures.told

pub swept-requires-clause-fitted : goal.swept-requires-clause-fitted
swept-requires-clause-fitted g c = subst (AreFittedTo c.in_ok-log.log.chares) (sym c.as_slice-2.ensures.value) c.in_ok-machines.ensures.fitted

pub returns-clause-told : goal.returns-clause-told
returns-clause-told g c =
    let old = (g.D.Desk.world c.args.desk.now).files in
    let mid = (g.D.Desk.world c.log_named.new.desk).files in
    let name = c.args.name.now in
    let words = words_of c.args.machines.now in
    let spans = c.args.spans in
    let log = c.in_ok-log.log in
    let machines = c.in_ok-machines.machines in
    let reply = c.in_ok-swept.field-0 in
    each_two old mid _ _ _ (ap (λ (o : Outside). o.files) c.in_ok-log.ensures.reading) (λ files h k.
    sweeps files name words spans log h (views machines.items) reply
    (as_asked files log.chares c.new.result.items c.as_slice.result.now words (Ok machines) c.new.ensures.items (ap (map word_of) c.as_slice.ensures.value ∙ c.in_ok-words.ensures) k)
    (subst (λ fs. sweep_on spans log (views fs) (Ok (said_of reply))) c.as_slice-2.ensures.value c.in_ok-swept.ensures)) c.in_ok-log.ensures.told c.in_ok-machines.ensures.told
