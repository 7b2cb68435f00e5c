use Rattle.std.proofs.Common.{rules, refl, sym, ap, subst, ◌-◌, drop, length, map, take, Err}
use Rattle.bs_desk.specs.Outside.{Outside}
use Rattle.bs_words.specs.Machine.{word_of}
use Rattle.bs_top.specs.Inputs.{machines_behind}
use Rattle.bs_top.specs.Seen.{AreFittedTo}
use Rattle.bs_top.specs.Step.{Told}
use Rattle.bs_top.specs.commands.Sweep.{views}
use Rattle.bs_top.proofs.Stages.{always, at_stop, each, each_two}
use Rattle.bs_top.proofs.Sweeping.{behind_push, fitted_push, no_first, no_more, then_rest, view, views_of}
use Rattle.bs_top.proofs.inputs.+machines_behind.Goals as goal

pub returns-in_err-machine-in-len1-up-clause-told : goal.returns-in_err-machine-in-len1-up-clause-told
returns-in_err-machine-in-len1-up-clause-told g t c =
    let old = (g.D.Desk.world c.args.desk.now).files in
    let before = views c.args.machines.items in
    let stop = c.in_err-machine-in-len1-up.field-0.0 in
    each old old _ _ refl (λ files h.
    at_stop (Told views_of (machines_behind before files c.args.chares (map word_of c.args.words.now))) stop c.from_residual.result c.from_residual.ensures.1
    (no_first files c.args.chares before c.args.words.now _ c.in-len1-up.len_at_least stop h)) c.in_err-machine-in-len1-up.ensures.told

pub machines_behind-requires : goal.machines_behind-requires
machines_behind-requires g t c κs within =
    let fitted = fitted_push c.args.chares c.args.machines.items c.in_ok-machine-in-len1-up.machine c.requires.fitted c.in_ok-machine-in-len1-up.ensures.fitted in
    (search rules, (search rules, (c.requires.chares, subst (AreFittedTo c.args.chares) (sym c.in_ok-machines-in-len1-up.ensures) fitted)))

pub returns-in-empty-clause-told : goal.returns-in-empty-clause-told
returns-in-empty-clause-told g t c =
    always (g.D.Desk.world c.args.desk.now).files (λ files. no_more files c.args.chares (views c.args.machines.items) c.args.words.now c.in-empty.len_below)

pub returns-in_ok-machines-in-len1-up-clause-told : goal.returns-in_ok-machines-in-len1-up-clause-told
returns-in_ok-machines-in-len1-up-clause-told g t c =
    let old = (g.D.Desk.world c.args.desk.now).files in
    let mid = (g.D.Desk.world c.fitting_machine.new.desk).files in
    let machines = c.args.machines.items in
    let words = c.args.words.now in
    let rest = take (length words - 1) (drop 1 words) in
    let machine = c.in_ok-machine-in-len1-up.machine in
    let r = c.machines_behind.result in
    each_two old mid _ _ _ (ap (λ (o : Outside). o.files) c.in_ok-machine-in-len1-up.ensures.reading) (λ files h k.
    then_rest files c.args.chares (views machines) words _ c.in-len1-up.len_at_least (view machine) r h
    (behind_push files c.args.chares (map word_of rest) machines machine r
    (subst (λ items. Told views_of (machines_behind (views items) files c.args.chares (map word_of rest)) r) c.in_ok-machines-in-len1-up.ensures k))) c.in_ok-machine-in-len1-up.ensures.told c.machines_behind.ensures.told
