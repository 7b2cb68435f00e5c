use Rattle.std.proofs.Common.{◌≡◌, ◌++◌, drop, map}
use Rattle.bs_whatif.specs.Rescaled.{rescaled_send}
use Rattle.bs_whatif.proofs.scaling.scaled_sends.Given as goal

abbrev pub invariant-loop-sent : goal.invariant-loop-sent
invariant-loop-sent l = l.scaled ++ map (rescaled_send l.is l.num l.den) (drop l.sent-index l.sends) ≡ map (rescaled_send l.is l.num l.den) l.sends
