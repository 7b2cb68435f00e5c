use Rattle.std.proofs.Common.{◌≡◌, ◌++◌, drop, map}
use Rattle.bs_rows.specs.Rows.{net_on}
use Rattle.bs_schedule.specs.Plan.{at}
use Rattle.bs_settle.specs.Shares.{arriving}
use Rattle.bs_settle.proofs.passing.arrivals.Given as goal

abbrev pub invariant-loop-mail : goal.invariant-loop-mail
invariant-loop-mail l = l.ticks ++ map (arriving (net_on l.log l.machine) (at l.starts)) (drop l.mail-index l.mails) ≡ map (arriving (net_on l.log l.machine) (at l.starts)) l.mails
