use Rattle.std.proofs.Common.{◌≡◌, ◌+◌, drop}
use Rattle.bs_net.specs.Ring.{hops_between}
use Rattle.bs_net.specs.Torus.{hops_of}
use Rattle.bs_net.proofs.torus.Torus.hops.Given as goal

abbrev pub invariant-loop-size : goal.invariant-loop-size
invariant-loop-size l = l.hops + hops_between (drop l.size-index l.size-items) l.from l.to ≡ hops_of l.fn.self l.fn.a l.fn.b
