use Rattle.std.proofs.Common.{◌≡◌, ◌≤◌, length}
use Rattle.bs_rows.specs.Rows.{net_on}
use Rattle.bs_settle.specs.Timed.{numbers}
use Rattle.bs_report.specs.Headed.{by_processor}
use Rattle.bs_report.specs.Trace.{start_in, traced_rows}
use Rattle.bs_report.proofs.Placed.{entries_of}
use Rattle.bs_report.proofs.runs.runs.Given as goal

abbrev pub invariant-loop-place : goal.invariant-loop-place
invariant-loop-place l = record {
  entries : l.runs.entries ≡ entries_of (by_processor (traced_rows (net_on l.log l.machine) (start_in (numbers l.starts)) l.place));
  within : l.place ≤ length l.log.rows;
}
