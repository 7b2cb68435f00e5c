use Rattle.std.proofs.Common.{◌<◌, ◌+◌, ◌-◌, ◌/◌, length, refl, arith}
use Rattle.bs_log.specs.Rising.{IsLower}
use Rattle.bs_times.specs.Racing.{same_mail}
use Rattle.bs_line.proofs.Ordered.{lower_back, mail_tests, place_found, stands_before, stands_from}
use Rattle.bs_line.proofs.places.mail_place.Goals as goal

pub loop-low-init : goal.loop-low-init
loop-low-init c = record {
  from = omega arith;
  before = (place_found same_mail mail_tests c.args.mails.now c.args.mail c.requires.among).0;
  within = omega arith;
}

pub loop-low-preserved-then-is_lower : goal.loop-low-preserved-then-is_lower
loop-low-preserved-then-is_lower c =
    let lt : c.loop-low.low + (c.loop-low.high - c.loop-low.low) / 2 < length c.args.mails.now = omega arith in record {
      from = c.loop-low.invariant.from;
      before = stands_before same_mail mail_tests IsLower lower_back c.args.mails.now c.args.mail _ _ c.requires.rises c.requires.among lt (c.if-is_lower.ensures.yes refl);
      within = omega arith;
    }

pub loop-low-preserved : goal.loop-low-preserved
loop-low-preserved c =
    let lt : c.loop-low.low + (c.loop-low.high - c.loop-low.low) / 2 < length c.args.mails.now = omega arith in record {
      from = stands_from same_mail mail_tests IsLower c.args.mails.now c.args.mail _ _ c.requires.rises c.requires.among lt (c.if-is_lower.ensures.no refl);
      before = c.loop-low.invariant.before;
      within = c.loop-low.invariant.within;
    }
