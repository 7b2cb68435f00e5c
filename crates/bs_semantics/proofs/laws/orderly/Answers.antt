use Rattle.bs_semantics.proofs.laws.orderly.Goals as goal
use Rattle.bs_semantics.proofs.Rising.{run_rising, run_asked, run_traps, run_waits, run_quiet}
use Rattle.bs_semantics.proofs.Rests.{run_earlier, run_lacks, run_came}
use Rattle.bs_semantics.proofs.Numbering.{numbered}
use Rattle.bs_semantics.proofs.SortedCauses.{run_sorted}
use Rattle.bs_semantics.proofs.Signed.{run_signed}
use Rattle.bs_semantics.proofs.Sorted.{one_list}

pub returns-clause-histories : goal.returns-clause-histories
returns-clause-histories c p limit this mail = record {
  rising = run_rising p limit this mail;
  asked = run_asked p limit this mail;
  traps = run_traps p limit this mail;
  waits = run_waits p limit this mail;
  earlier = run_earlier p limit this mail;
  signed = λ x m. let s = run_signed p limit this mail x m in (s.parcels, s.sends);
  came = run_came mail p limit this;
  lacks = run_lacks mail p limit this;
  quiet = run_quiet p limit this mail;
}

pub returns-clause-numbers : goal.returns-clause-numbers
returns-clause-numbers c = numbered

pub returns-clause-causes : goal.returns-clause-causes
returns-clause-causes c p limit this mail one x m = run_sorted p limit this mail one x m

pub returns-clause-one : goal.returns-clause-one
returns-clause-one c = one_list
