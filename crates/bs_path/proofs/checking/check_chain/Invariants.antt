use Rattle.std.proofs.Common.{◌≡◌, ◌<◌, ℕ, take}
use Rattle.std.specs.List.{sum_by}
use Rattle.bs_rows.specs.Rows.{net_on}
use Rattle.bs_path.specs.Chain.{starts_of}
use Rattle.bs_path.specs.Checked.{IsKnown}
use Rattle.bs_path.specs.Sound.{HoldsAt, before}
use Rattle.bs_path.specs.declared.links.ChainRow.{ChainRow}
use Rattle.bs_path.specs.declared.rules.ChainRule.{ChainRule}
use Rattle.bs_path.proofs.Few.{AreFew}
use Rattle.bs_path.proofs.Going.{started}
use Rattle.bs_path.proofs.checking.check_chain.Given as goal

abbrev pub invariant-loop-place : goal.invariant-loop-place
invariant-loop-place l = record {
  before : l.before ≡ before l.chain.rows l.place;
  known : IsKnown (net_on l.log l.machine) (starts_of l.times) l.before;
  total : l.total ≡ sum_by (λ (r : ChainRow). r.step) (take l.place l.chain.rows);
  at : l.total ≡ started l.before;
  few : AreFew (net_on l.log l.machine) (starts_of l.times) l.before l.place;
  holds : (k : ℕ) → k < l.place → (rule : ChainRule) → HoldsAt (net_on l.log l.machine) (starts_of l.times) l.chain k rule;
}
