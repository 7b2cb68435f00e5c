use Rattle.bs_settle.specs.Timed.{numbers}
use Rattle.bs_whatif.proofs.Leasts.{IsFirstTo}
use Rattle.bs_whatif.proofs.choosing.first_least.Given as goal

abbrev pub invariant-loop-place : goal.invariant-loop-place
invariant-loop-place l = IsFirstTo (numbers l.spans) l.place l.least
