use Rattle.std.proofs.Common.{subst}
use Rattle.bs_settle.specs.Settled.{AreWithin}
use Rattle.bs_settle.proofs.Within.{budget_spent}
use Rattle.bs_settle.proofs.field.Field.settle_noting.Goals as goal

pub returns-in-Some-clause-spent : goal.returns-in-Some-clause-spent
returns-in-Some-clause-spent c =
    let s = c.args.self.now in
    let last = subst (AreWithin s c.note_within.new.self c.args.budget) c.in-Some.is c.in_ok-note_within.ensures.within in
    budget_spent s c.requires.field c.args.budget c.in-Some.change c.spent.result c.requires.budget.0 last c.spent.ensures.waves c.spent.ensures.mail c.spent.ensures.kept c.spent.ensures.due
