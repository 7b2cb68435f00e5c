use Rattle.bs_rows.specs.Rows.{net_on}
use Rattle.bs_settle.specs.Timed.{numbers}
use Rattle.bs_path.specs.Chain.{start_in}
use Rattle.bs_path.proofs.Walked.{HasWalked, left}
use Rattle.bs_path.proofs.walking.rows_to.Given as goal

abbrev pub invariant-loop-next : goal.invariant-loop-next
invariant-loop-next l = HasWalked (net_on l.log l.machine) (start_in (numbers l.starts)) l.fn.last l.back.items l.next

abbrev pub decreases-loop-next : goal.decreases-loop-next
decreases-loop-next l = left (start_in (numbers l.starts)) l.next
