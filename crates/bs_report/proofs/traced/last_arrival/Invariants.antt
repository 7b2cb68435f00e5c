use Rattle.std.proofs.Common.{◌≡◌, max, map, drop}
use Rattle.bs_rows.specs.Rows.{net_on}
use Rattle.bs_settle.specs.Timed.{numbers}
use Rattle.bs_times.specs.Times.{arrival, greatest}
use Rattle.bs_report.specs.Trace.{start_in}
use Rattle.bs_report.proofs.traced.last_arrival.Given as goal

abbrev pub invariant-loop-cause : goal.invariant-loop-cause
invariant-loop-cause l =
    max l.last (greatest (map (arrival (net_on l.log l.machine) (start_in (numbers l.starts))) (drop l.cause-index l.cause-items)))
    ≡ greatest (map (arrival (net_on l.log l.machine) (start_in (numbers l.starts))) ((net_on l.log l.machine).mail l.number))
