use Rattle.std.proofs.Common.{◌≤◌, ◌<◌, length, ◌-◌}
use Rattle.bs_line.specs.Places.{mail_place}
use Rattle.bs_line.proofs.places.mail_place.Given as goal

abbrev pub invariant-loop-low : goal.invariant-loop-low
invariant-loop-low l = record {
  from : l.low ≤ mail_place l.mails l.mail;
  before : mail_place l.mails l.mail < l.high;
  within : l.high ≤ length l.mails;
}

abbrev pub decreases-loop-low : goal.decreases-loop-low
decreases-loop-low l = l.high - l.low
