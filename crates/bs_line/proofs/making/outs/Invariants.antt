use Rattle.std.proofs.Common.{◌≡◌, ◌++◌, drop, map}
use Rattle.bs_line.specs.Making.{mails_of}
use Rattle.bs_rows.specs.Rows.{net_on}
use Rattle.bs_line.specs.Layout.{out_of}
use Rattle.bs_line.proofs.making.outs.Given as goal

abbrev pub invariant-loop-estimate : goal.invariant-loop-estimate
invariant-loop-estimate l = l.outs ++ map (out_of (net_on l.log l.machine) l.rows) (mails_of (drop l.estimate-index l.goes)) ≡ map (out_of (net_on l.log l.machine) l.rows) (mails_of l.goes)
