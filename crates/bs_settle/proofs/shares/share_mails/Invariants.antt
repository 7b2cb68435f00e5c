use Rattle.std.proofs.Common.{◌≡◌, ℕ, length}
use Rattle.bs_rows.specs.Rows.{net_on}
use Rattle.bs_settle.specs.Shares.{AreShares}
use Rattle.bs_settle.proofs.shares.share_mails.Given as goal

abbrev pub invariant-loop-k : goal.invariant-loop-k
invariant-loop-k l =
    (length l.shares.items ≡ length l.fn.shares.items)
    × ((many n : ℕ) → AreShares (net_on l.log l.machine) many n 0 l.mails l.ticks l.fn.shares.items → AreShares (net_on l.log l.machine) many n l.k l.mails l.ticks l.shares.items)
