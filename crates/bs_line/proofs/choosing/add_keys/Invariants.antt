use Rattle.std.proofs.Common.{take}
use Rattle.bs_line.specs.Listing.{HasAdded}
use Rattle.bs_line.proofs.choosing.add_keys.Given as goal

abbrev pub invariant-loop-mail : goal.invariant-loop-mail
invariant-loop-mail l = HasAdded (take l.mail-index l.mails) l.fn.keys.keys l.keys.keys
