use Rattle.std.proofs.Common.{◌∙◌}
use Rattle.bs_settle.proofs.Budget.{budget_few}
use Rattle.bs_settle.proofs.field.Field.budget.Goals as goal

pub returns-clause-range : goal.returns-clause-range
returns-clause-range c = rw (c.from.ensures ∙ c.count-rows.ensures.value, c.from-2.ensures ∙ c.greatest_depth.ensures) (budget_few c.args.self.now.log.now c.requires.valid)
