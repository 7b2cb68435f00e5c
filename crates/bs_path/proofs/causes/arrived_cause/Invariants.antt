use Rattle.std.proofs.Common.{◌≡◌, drop}
use Rattle.std.specs.List.{find}
use Rattle.bs_rows.specs.Rows.{net_on}
use Rattle.bs_settle.specs.Timed.{numbers}
use Rattle.bs_path.specs.Chain.{start_in}
use Rattle.bs_path.specs.Ended.{arrives_at}
use Rattle.bs_path.proofs.causes.arrived_cause.Given as goal

abbrev pub invariant-loop-cause : goal.invariant-loop-cause
invariant-loop-cause l =
    find (arrives_at (net_on l.log l.machine) (start_in (numbers l.starts)) l.tick) (drop l.cause-index l.cause-items)
    ≡ find (arrives_at (net_on l.log l.machine) (start_in (numbers l.starts)) l.tick) ((net_on l.log l.machine).mail l.number)
