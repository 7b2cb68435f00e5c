use Rattle.std.proofs.Common.{◌≡◌, ◌++◌, drop}
use Rattle.bs_line.specs.Making.{mails_of}
use Rattle.bs_line.proofs.making.mails.Given as goal

abbrev pub invariant-loop-estimate : goal.invariant-loop-estimate
invariant-loop-estimate l = l.mails ++ mails_of (drop l.estimate-index l.estimates) ≡ mails_of l.estimates
