use Rattle.std.proofs.Common.{◌≡◌, ◌++◌, drop}
use Rattle.bs_settle.specs.Timed.{numbers}
use Rattle.bs_times.specs.Machine.{machine_of}
use Rattle.bs_report.specs.Outcomes.{timed_rows}
use Rattle.bs_report.proofs.outcomes.with_times.Given as goal

abbrev pub invariant-loop-place : goal.invariant-loop-place
invariant-loop-place l =
    l.timed ++ timed_rows (machine_of l.machine) (drop l.place l.rows) (numbers (drop l.place l.starts)) (numbers (drop l.place l.ends))
    ≡ timed_rows (machine_of l.machine) l.rows (numbers l.starts) (numbers l.ends)
