use Rattle.bs_rows.specs.Rows.{net_on}
use Rattle.bs_whatif.proofs.Told.{one_points_text, one_spans_text, some_points_text, some_spans_text}
use Rattle.bs_whatif.proofs.Series.{tuned_causal, tuned_next}
use Rattle.bs_whatif.specs.Figures.{tuned}
use Rattle.bs_whatif.proofs.laws.one_tuning.Goals as goal

pub returns-clause-some : goal.returns-clause-some
returns-clause-some c log m stmt num den v f = some_points_text (tuned log m stmt num den) (tuned_causal log v m stmt num den f)

pub returns-clause-one : goal.returns-clause-one
returns-clause-one c log m stmt num den v f = one_points_text (net_on log m) (tuned log m stmt num den) (tuned_next log v m stmt num den f)

pub returns-clause-some_spans : goal.returns-clause-some_spans
returns-clause-some_spans c log m stmt num den v f = some_spans_text (tuned log m stmt num den) (tuned_causal log v m stmt num den f)

pub returns-clause-one_spans : goal.returns-clause-one_spans
returns-clause-one_spans c log m stmt num den v f = one_spans_text (tuned log m stmt num den) (tuned_causal log v m stmt num den f)
