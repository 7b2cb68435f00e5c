use Rattle.std.proofs.Common.{ap, ◌∙◌}
use Rattle.bs_match.specs.Mail.{lookup}
use Rattle.bs_match.proofs.Finds.{finds}
use Rattle.bs_match.proofs.mail.Mail.get.Goals as goal

pub returns : goal.returns
returns c = c.get.ensures.value ∙ (finds c.self.inside.messages.entries c.self.invariant c.args.key ∙ ap (λ held. lookup held c.args.key) c.self.view_is)
