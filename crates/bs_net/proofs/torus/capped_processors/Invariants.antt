use Rattle.std.proofs.Common.{◌≡◌, ◌<◌, ◌*◌, ◌-◌, ◌^◌, drop, min}
use Rattle.bs_net.specs.Range.{processors_in}
use Rattle.bs_net.specs.Ring.{nodes_of}
use Rattle.bs_net.proofs.torus.capped_processors.Given as goal

abbrev pub invariant-loop-size : goal.invariant-loop-size
invariant-loop-size l = record {
  fits : l.processors < 2 ^ 64;
  product : min (l.processors * nodes_of (drop l.size-index l.sizes)) (2 ^ 64 - 1) ≡ min (processors_in l.sizes l.fn.per_node) (2 ^ 64 - 1);
}
