use Rattle.bs_rows.specs.Rows.{net_on}
use Rattle.bs_settle.specs.Timed.{numbers}
use Rattle.bs_path.specs.Chain.{start_in}
use Rattle.bs_path.specs.Checked.{NoneBetween}
use Rattle.bs_path.proofs.neighbours.none_between.Given as goal

abbrev pub invariant-loop-place : goal.invariant-loop-place
invariant-loop-place l = NoneBetween (net_on l.log l.machine) (start_in (numbers l.starts)) l.place l.processor l.first l.second
