use Rattle.bs_top.proofs.settling.most_waves.Goals as goal

pub returns-in-None-clause-range : goal.returns-in-None-clause-range
returns-in-None-clause-range c = c.budget.ensures.range
