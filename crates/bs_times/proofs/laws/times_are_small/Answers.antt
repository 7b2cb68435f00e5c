use Rattle.bs_times.proofs.Small.{small_arrivals, small_ends, small_outcome}
use Rattle.bs_times.proofs.laws.times_are_small.Goals as goal

pub returns : goal.returns
returns c = record { ends = small_ends; arrivals = small_arrivals; outcome = small_outcome }
