use Rattle.bs_emul.proofs.Chares.{AreBegun}
use Rattle.bs_emul.proofs.world.World.begin.Given as goal

abbrev pub invariant-loop-number : goal.invariant-loop-number
invariant-loop-number l = AreBegun l.accepted.program l.limit l.number l.chares.items l.queue.items
