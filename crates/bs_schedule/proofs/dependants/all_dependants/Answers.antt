use Rattle.std.proofs.Common.{rules, ◌≡◌, ◌∙◌, length, arith, subst, sym}
use Rattle.bs_schedule.specs.Plan.{CausesFit}
use Rattle.bs_schedule.specs.Dependants.{DependantsAre}
use Rattle.bs_schedule.proofs.Depending.{no_dependants, dependants_more}
use Rattle.bs_schedule.proofs.dependants.all_dependants.Goals as goal

pub loop-row-init : goal.loop-row-init
loop-row-init c = (search rules, no_dependants c.args.causes.now c.in_ok-lists.lists.items c.in_ok-lists.ensures.empty)

pub add_dependants-requires : goal.add_dependants-requires
add_dependants-requires c i d h = let w = subst (λ xs. CausesFit xs (length c.args.causes.now)) (sym c.nth.ensures) (c.requires.within c.loop-row.row c.loop-row-test.true) in omega (arith, w i d h, c.loop-row.invariant.0)

pub loop-row-preserved : goal.loop-row-preserved
loop-row-preserved c = (c.add_dependants.ensures.length ∙ c.loop-row.invariant.0, dependants_more c.args.causes.now c.loop-row.row _ _ (search rules) c.loop-row.invariant.1 (rw c.nth.ensures at c.in_ok-add_dependants.ensures.added))

pub returns-clause-dependants : goal.returns-clause-dependants
returns-clause-dependants c =
    let e : c.loop-row.row ≡ length c.args.causes.now = omega (arith, c.loop-row-test.false, c.loop-row.auto.row-end c.requires.some) in
    subst (λ y. DependantsAre c.args.causes.now (length c.args.causes.now) y) (sym c.from_vec.ensures) (subst (λ y. DependantsAre c.args.causes.now y c.loop-row.lists.items) e c.loop-row.invariant.1)
