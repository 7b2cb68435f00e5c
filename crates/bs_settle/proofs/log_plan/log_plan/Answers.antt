use Rattle.std.proofs.Common.{◌∙◌}
use Rattle.bs_settle.proofs.Whole.{are_rows, whole}
use Rattle.bs_settle.proofs.log_plan.log_plan.Goals as goal

pub new-requires : goal.new-requires
new-requires c = rw (c.processors.ensures.value, c.in_ok-homes.ensures, c.in_ok-times.ensures, c.in_ok-causes.ensures) (are_rows c.args.log.now c.args.machine.now c.requires.valid c.requires.fitted)

pub returns-clause-whole : goal.returns-clause-whole
returns-clause-whole c = whole c.args.log.now c.args.machine.now c.in_ok-plan.plan (c.in_ok-plan.ensures.homes ∙ c.in_ok-homes.ensures) (c.in_ok-plan.ensures.times ∙ c.in_ok-times.ensures) (c.in_ok-plan.ensures.causes ∙ c.in_ok-causes.ensures)
