use Rattle.std.proofs.Common.{rules, length, subst, sym}
use Rattle.bs_schedule.specs.Plan.{AreRows}
use Rattle.bs_schedule.specs.Dependants.{DependantsAre}
use Rattle.bs_schedule.proofs.Depending.{made, all_fit}
use Rattle.bs_schedule.proofs.plan.Plan.new.Goals as goal

pub all_dependants-requires-clause-within : goal.all_dependants-requires-clause-within
all_dependants-requires-clause-within c = all_fit c.args.processors c.args.homes c.args.times c.as_slice.result.now (subst (λ causes. AreRows c.args.processors c.args.homes c.args.times causes) (sym c.as_slice.ensures) c.requires)

pub returns-clause-plan : goal.returns-clause-plan
returns-clause-plan c =
    let lists : DependantsAre c.args.causes (length c.args.causes) c.in_ok-dependants.dependants = rw c.as_slice.ensures at c.in_ok-dependants.ensures.dependants in
    made _ c.requires (search rules) lists
