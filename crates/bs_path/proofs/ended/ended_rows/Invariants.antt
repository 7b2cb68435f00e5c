use Rattle.std.proofs.Common.{◌≤◌, ℕ, length}
use Rattle.std.specs.BTreeMap.{get}
use Rattle.bs_rows.specs.Rows.{net_on}
use Rattle.bs_settle.specs.Timed.{numbers}
use Rattle.bs_path.specs.Chain.{start_in}
use Rattle.bs_path.specs.Ended.{EndsAt, key_cmp}
use Rattle.bs_path.proofs.ended.ended_rows.Given as goal

abbrev pub invariant-loop-place : goal.invariant-loop-place
invariant-loop-place l = record {
  ends : (p t : ℕ) → EndsAt (net_on l.log l.machine) (start_in (numbers l.starts)) l.place p t (get key_cmp l.ended (p, t));
  within : l.place ≤ length l.log.rows;
}
