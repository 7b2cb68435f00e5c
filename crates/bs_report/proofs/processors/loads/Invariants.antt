use Rattle.std.proofs.Common.{◌≡◌, take}
use Rattle.bs_report.specs.Loads.{loads_of}
use Rattle.bs_report.proofs.processors.loads.Given as goal

abbrev pub invariant-loop-row : goal.invariant-loop-row
invariant-loop-row l = l.loads.entries ≡ loads_of (take l.row-index l.rows)
