use Rattle.std.proofs.Common.{◌≤◌, ◌<◌, length, ◌-◌}
use Rattle.bs_line.specs.Places.{row_place}
use Rattle.bs_line.proofs.places.row_place.Given as goal

abbrev pub invariant-loop-low : goal.invariant-loop-low
invariant-loop-low l = record {
  from : l.low ≤ row_place l.rows l.row;
  before : row_place l.rows l.row < l.high;
  within : l.high ≤ length l.rows;
}

abbrev pub decreases-loop-low : goal.decreases-loop-low
decreases-loop-low l = l.high - l.low
