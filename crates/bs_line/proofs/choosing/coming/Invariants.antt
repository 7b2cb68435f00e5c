use Rattle.std.proofs.Common.{◌≡◌, ◌==◌, ◌++◌, drop}
use Rattle.bs_rows.specs.Rows.{net_on}
use Rattle.bs_line.specs.Making.{kept}
use Rattle.bs_line.proofs.choosing.coming.Given as goal

abbrev pub invariant-loop-k : goal.invariant-loop-k
invariant-loop-k l = l.list ++ kept (λ m. (net_on l.log l.machine).goes_to m == l.processor) (drop l.k l.mails) (drop l.k l.estimates) ≡ kept (λ m. (net_on l.log l.machine).goes_to m == l.processor) l.mails l.estimates
