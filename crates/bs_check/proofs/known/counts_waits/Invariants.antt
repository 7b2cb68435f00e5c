use Rattle.std.proofs.Common.{◌≡◌, drop}
use Rattle.bs_check.specs.Rules.{are_waits_counted}
use Rattle.bs_check.proofs.known.counts_waits.Given as goal

abbrev pub invariant-loop-wait : goal.invariant-loop-wait
invariant-loop-wait l = are_waits_counted l.names.program (drop l.wait-index l.wait-items) ≡ are_waits_counted l.names.program l.waits
