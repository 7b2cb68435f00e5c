use Rattle.bs_model.proofs.Lines.{first_some, first_none}
use Rattle.bs_model.proofs.line.Line.first.Goals as goal

pub returns-in-Some-clause-first : goal.returns-in-Some-clause-first
returns-in-Some-clause-first c = λ f is. first_some f c.args.self.now c.in-Some.key.now is c.in-Some.ensures.member c.in-Some.ensures.least

pub returns-in-None-clause-first : goal.returns-in-None-clause-first
returns-in-None-clause-first c = λ f is. first_none f c.args.self.now is (λ l. let e = c.in-None.ensures.variant.1 l in absurd (cc))
