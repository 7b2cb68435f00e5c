use Rattle.std.proofs.Common.{◌≡◌, drop}
use Rattle.bs_check.specs.Known.{are_counted}
use Rattle.bs_check.proofs.known.+counted.Given as goal

abbrev pub invariant-counts_acts-loop-act : goal.invariant-counts_acts-loop-act
invariant-counts_acts-loop-act l = are_counted l.names.program (drop l.act-index l.act-items) ≡ are_counted l.names.program l.acts
