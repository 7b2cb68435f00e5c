use Rattle.std.proofs.Common.{◌≡◌, ◌++◌, map}
use Rattle.bs_line.specs.Listing.{keyed}
use Rattle.bs_line.proofs.choosing.in_order.Given as goal

abbrev pub invariant-loop-key : goal.invariant-loop-key
invariant-loop-key l = map keyed l.mails ++ l.key-iterator ≡ l.keys.keys
