use Rattle.bs_whatif.specs.Figures.{at_zero}
use Rattle.bs_whatif.proofs.Series.{series_spans}
use Rattle.bs_whatif.proofs.laws.same_spans.Goals as goal

pub returns : goal.returns
returns c nets figures are = series_spans nets at_zero figures are
