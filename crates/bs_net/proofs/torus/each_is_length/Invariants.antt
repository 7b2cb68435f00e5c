use Rattle.std.proofs.Common.{◌≡◌, drop}
use Rattle.std.specs.List.{list_all}
use Rattle.bs_net.specs.Range.{is_size}
use Rattle.bs_net.proofs.torus.each_is_length.Given as goal

abbrev pub invariant-loop-size : goal.invariant-loop-size
invariant-loop-size l = list_all is_size (drop l.size-index l.sizes) ≡ list_all is_size l.sizes
