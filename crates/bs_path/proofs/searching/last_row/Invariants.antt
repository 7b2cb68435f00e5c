use Rattle.std.proofs.Common.{◌≡◌, ◌≤◌, length}
use Rattle.bs_rows.specs.Rows.{net_on}
use Rattle.bs_settle.specs.Timed.{numbers}
use Rattle.bs_times.specs.Times.{end_of, greatest_to}
use Rattle.bs_path.specs.Chain.{start_in}
use Rattle.bs_path.specs.Ended.{EndsLast}
use Rattle.bs_path.proofs.searching.last_row.Given as goal

abbrev pub invariant-loop-place : goal.invariant-loop-place
invariant-loop-place l = record {
  latest : l.latest ≡ greatest_to (end_of (net_on l.log l.machine) (start_in (numbers l.starts))) l.place;
  last : EndsLast (net_on l.log l.machine) (start_in (numbers l.starts)) l.place l.last;
  within : l.place ≤ length l.log.rows;
}
