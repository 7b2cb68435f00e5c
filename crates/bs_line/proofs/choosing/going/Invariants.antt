use Rattle.std.proofs.Common.{◌≡◌, ◌==◌, ◌++◌, drop}
use Rattle.bs_rows.specs.Rows.{net_on}
use Rattle.bs_line.specs.Making.{kept}
use Rattle.bs_line.proofs.choosing.going.Given as goal

abbrev pub invariant-loop-k : goal.invariant-loop-k
invariant-loop-k l = l.list ++ kept (λ m. (net_on l.log l.machine).home m.row == l.processor) (drop l.k l.mails) (drop l.k l.estimates) ≡ kept (λ m. (net_on l.log l.machine).home m.row == l.processor) l.mails l.estimates
