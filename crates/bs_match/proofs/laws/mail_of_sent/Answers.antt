use Rattle.bs_match.proofs.Sent.{adds, skips, apart_from, apart, any_order}
use Rattle.bs_match.proofs.laws.mail_of_sent.Goals as goal

pub returns-clause-adds : goal.returns-clause-adds
returns-clause-adds c = adds

pub returns-clause-skips : goal.returns-clause-skips
returns-clause-skips c = skips

pub returns-clause-apart : goal.returns-clause-apart
returns-clause-apart c ms m = (λ h. apart_from ms m h, λ h. apart ms m h.0 h.1)

pub returns-clause-any_order : goal.returns-clause-any_order
returns-clause-any_order c = any_order
