use Rattle.std.proofs.Common.{subst}
use Rattle.bs_match.specs.Mail.{HasRisingKeys}
use Rattle.bs_match.proofs.Finds.{rising}
use Rattle.bs_match.proofs.mail.Mail.len.Goals as goal

pub returns-clause-rising : goal.returns-clause-rising
returns-clause-rising c = subst HasRisingKeys c.self.view_is (rising c.self.inside.messages c.self.invariant c.len.ensures.ordered)
