use Rattle.std.proofs.Common.{◌<◌, ◌+◌, ◌-◌, ◌/◌, ◌==◌, length, arith}
use Rattle.bs_line.proofs.Ordered.{below_back, row_tests, place_found, stands_before, stands_from}
use Rattle.bs_line.proofs.places.row_place.Goals as goal

pub loop-low-init : goal.loop-low-init
loop-low-init c = record {
  from = omega arith;
  before = (place_found ◌==◌ row_tests c.args.rows.now c.args.row c.requires.among).0;
  within = omega arith;
}

pub loop-low-preserved-then-row-rows : goal.loop-low-preserved-then-row-rows
loop-low-preserved-then-row-rows c =
    let lt : c.loop-low.low + (c.loop-low.high - c.loop-low.low) / 2 < length c.args.rows.now = omega arith in record {
      from = c.loop-low.invariant.from;
      before = stands_before ◌==◌ row_tests (λ i j. i < j) below_back c.args.rows.now c.args.row (c.loop-low.low + (c.loop-low.high - c.loop-low.low) / 2) 0 c.requires.rises c.requires.among lt (omega arith);
      within = omega arith;
    }

pub loop-low-preserved : goal.loop-low-preserved
loop-low-preserved c =
    let lt : c.loop-low.low + (c.loop-low.high - c.loop-low.low) / 2 < length c.args.rows.now = omega arith in record {
      from = stands_from ◌==◌ row_tests (λ i j. i < j) c.args.rows.now c.args.row (c.loop-low.low + (c.loop-low.high - c.loop-low.low) / 2) 0 c.requires.rises c.requires.among lt (λ h. omega (arith, h));
      before = c.loop-low.invariant.before;
      within = c.loop-low.invariant.within;
    }
