use Rattle.std.proofs.Common.{◌≡◌, ◌++◌, drop, map}
use Rattle.bs_line.specs.Making.{places_of}
use Rattle.bs_line.specs.Places.{mail_place}
use Rattle.bs_line.proofs.making.slots_of.Given as goal

abbrev pub invariant-loop-mail : goal.invariant-loop-mail
invariant-loop-mail l = l.slots ++ map (mail_place l.mails) (drop l.mail-index l.mail-items) ≡ places_of l.log l.mails l.number
