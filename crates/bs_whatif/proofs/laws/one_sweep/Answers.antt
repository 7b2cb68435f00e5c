use Rattle.bs_whatif.proofs.Told.{one_spans_text, one_swept_text, some_points_text, some_spans_text}
use Rattle.bs_whatif.proofs.Series.{swept_causal}
use Rattle.bs_whatif.specs.Figures.{swept}
use Rattle.bs_whatif.proofs.laws.one_sweep.Goals as goal

pub returns-clause-some : goal.returns-clause-some
returns-clause-some c log ms v = some_points_text (swept log ms) (swept_causal log v ms)

pub returns-clause-one : goal.returns-clause-one
returns-clause-one c = one_swept_text

pub returns-clause-some_spans : goal.returns-clause-some_spans
returns-clause-some_spans c log ms v = some_spans_text (swept log ms) (swept_causal log v ms)

pub returns-clause-one_spans : goal.returns-clause-one_spans
returns-clause-one_spans c log ms v = one_spans_text (swept log ms) (swept_causal log v ms)
