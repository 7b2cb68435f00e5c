use Rattle.std.proofs.Common.{◌≡◌, ◌-◌, ◌++◌, drop, map}
use Rattle.bs_line.specs.Making.{numbers}
use Rattle.bs_rows.specs.Rows.{net_on}
use Rattle.bs_schedule.specs.Plan.{at}
use Rattle.bs_settle.specs.Shares.{arriving}
use Rattle.bs_whatif.proofs.points.arrivals_of.Given as goal

abbrev pub invariant-loop-mail : goal.invariant-loop-mail
invariant-loop-mail l =
    l.ticks ++ map (arriving (net_on l.log l.machine) (λ i. at (numbers l.starts) (i - 1))) (drop l.mail-index l.mails)
    ≡ map (arriving (net_on l.log l.machine) (λ i. at (numbers l.starts) (i - 1))) l.mails
