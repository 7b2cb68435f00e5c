use Rattle.std.proofs.Common.{ap₂, ◌∙◌}
use Rattle.bs_semantics.specs.Run.{union}
use Rattle.bs_history.proofs.Paths.{united}
use Rattle.bs_history.proofs.causes.Causes.union.Goals as goal

pub returns : goal.returns
returns c =
    united c.self.inside.after.items c.causes.inside.after.items c.put_items.new.into.items c.self.inside.mail.items c.causes.inside.mail.items c.put_items-2.new.into.items c.in_ok-put_items.ensures c.in_ok-put_items-2.ensures
    ∙ ap₂ union c.self.view_is c.causes.view_is
