use Rattle.std.proofs.Common.{◌≡◌, ℕ, List, length}
use Rattle.bs_log.specs.declared.log.MailRef.{MailRef}
use Rattle.bs_num.specs.declared.ticks.Tick.{Tick}
use Rattle.bs_rows.specs.Rows.{net_on}
use Rattle.bs_settle.specs.Shares.{AreShares}
use Rattle.bs_settle.proofs.shares.share_rows.Given as goal

abbrev pub invariant-loop-place : goal.invariant-loop-place
invariant-loop-place l =
    (length l.shares.items ≡ length l.fn.shares.items)
    × ((many : ℕ) (mails : List MailRef) (ticks : List Tick) → AreShares (net_on l.log l.machine) many 0 0 mails ticks l.fn.shares.items → AreShares (net_on l.log l.machine) many l.place 0 mails ticks l.shares.items)
