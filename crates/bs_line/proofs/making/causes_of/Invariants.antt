use Rattle.std.proofs.Common.{◌≡◌, ◌++◌, drop, map}
use Rattle.bs_rows.specs.Rows.{net_on}
use Rattle.bs_line.specs.Layout.{local_cause, local_causes}
use Rattle.bs_line.proofs.making.causes_of.Given as goal

abbrev pub invariant-loop-cause : goal.invariant-loop-cause
invariant-loop-cause l = l.causes ++ map (local_cause (net_on l.log l.machine) l.rows) (drop l.cause-index l.cause-items) ≡ local_causes (net_on l.log l.machine) l.rows l.number
