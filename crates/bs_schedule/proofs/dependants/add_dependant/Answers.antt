use Rattle.std.proofs.Common.{◌≡◌, ap, ◌∙◌, ◌++◌, ◌∷◌, [], set, get_or, subst}
use Rattle.std.proofs.lemmas.List.{get_or_default}
use Rattle.bs_log.specs.Lists.{Mem}
use Rattle.bs_schedule.proofs.Depending.{adds_again, adds_one}
use Rattle.bs_schedule.proofs.dependants.add_dependant.Goals as goal

pub returns-in_ok-push-clause-added : goal.returns-in_ok-push-clause-added
returns-in_ok-push-clause-added c =
    let lists = c.args.lists.now.items in
    let place = c.args.cause in
    let value : c.index_mut.result.now ≡ get_or lists place [] = c.index_mut.ensures.value ∙ get_or_default lists place c.index_mut.result.now [] c.requires in
    adds_one c.args.row place lists (set lists place c.push.new.self) c.requires
    (ap (set lists place) (c.in_ok-push.ensures.ok ∙ ap (λ rows. rows ++ c.args.row ∷ []) value))

pub returns-else-not-is_last-clause-added : goal.returns-else-not-is_last-clause-added
returns-else-not-is_last-clause-added c =
    let lists = c.args.lists.now.items in
    let place = c.args.cause in
    let listed = c.is_last.ensures c.if-not-is_last.false in
    let value : c.index.result.now ≡ get_or lists place [] = c.index.ensures ∙ get_or_default lists place c.index.result.now [] c.requires in
    adds_again c.args.row place lists (subst (Mem c.args.row) (c.as_slice.ensures ∙ value) listed)
