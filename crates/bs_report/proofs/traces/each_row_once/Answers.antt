use Rattle.bs_report.proofs.Once.{no_others, row_once}
use Rattle.bs_report.proofs.traces.each_row_once.Goals as goal

pub returns : goal.returns
returns c = record { once = λ net s n i some most. row_once net s n i some most; others = λ net s n. no_others net s n }
