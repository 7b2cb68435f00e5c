use Rattle.std.proofs.Common.{◌≡◌}
use Rattle.bs_times.specs.Net.{row_of}
use Rattle.bs_times.specs.Times.{greatest_to}
use Rattle.bs_settle.proofs.field.greatest_depth.Given as goal

abbrev pub invariant-loop-place : goal.invariant-loop-place
invariant-loop-place l = l.most ≡ greatest_to (λ i. (row_of l.log i).depth) l.place
