use Rattle.std.proofs.Common.{◌≡◌, drop}
use Rattle.bs_check.specs.Known.{are_known}
use Rattle.bs_check.proofs.known.+known.Given as goal

abbrev pub invariant-knows_acts-loop-act : goal.invariant-knows_acts-loop-act
invariant-knows_acts-loop-act l = are_known l.names.program (drop l.act-index l.act-items) ≡ are_known l.names.program l.acts
