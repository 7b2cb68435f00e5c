use Rattle.std.proofs.Common.{rules, ◌∙◌, subst}
use Rattle.std.proofs.lemmas.List.{take_all}
use Rattle.bs_schedule.specs.Plan.{causing}
use Rattle.bs_schedule.specs.Dependants.{Adds}
use Rattle.bs_schedule.proofs.Depending.{adds_more}
use Rattle.bs_schedule.proofs.dependants.add_dependants.Goals as goal

pub loop-cause-preserved : goal.loop-cause-preserved
loop-cause-preserved c = let i = c.loop-cause.invariant in
    (c.add_dependant.ensures.length ∙ i.0, adds_more c.args.row c.loop-cause.cause-index c.args.causes.now (record { row = 0; delay = 0 }) c.args.lists.now.items c.loop-cause.lists.items c.add_dependant.new.lists.items c.loop-cause-test.true i.1 c.in_ok-add_dependant.ensures.added)

pub returns-clause-added : goal.returns-clause-added
returns-clause-added c = let i = c.loop-cause.invariant in subst (λ xs. Adds c.args.row (causing xs) c.args.lists.now.items c.loop-cause.lists.items) (take_all c.loop-cause.cause-index c.args.causes.now c.loop-cause-test.false) i.1
