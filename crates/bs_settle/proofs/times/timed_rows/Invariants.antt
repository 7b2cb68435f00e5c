use Rattle.std.proofs.Common.{◌≡◌, ◌+◌, ◌++◌, drop}
use Rattle.bs_schedule.specs.Plan.{at}
use Rattle.bs_times.specs.Machine.{machine_of}
use Rattle.bs_settle.specs.Timed.{ends_from, numbers, starts_from}
use Rattle.bs_settle.proofs.times.timed_rows.Given as goal

abbrev pub invariant-loop-place : goal.invariant-loop-place
invariant-loop-place l =
    (numbers l.begins ++ starts_from (at l.starts) (l.place + 1) (drop l.place l.log.rows) ≡ starts_from (at l.starts) 1 l.log.rows)
    × (numbers l.ends ++ ends_from (machine_of l.machine) (at l.starts) (l.place + 1) (drop l.place l.log.rows) ≡ ends_from (machine_of l.machine) (at l.starts) 1 l.log.rows)
