use Rattle.std.proofs.Common.{◌≤◌, arith}
use Rattle.bs_net.specs.Torus.{processors_of}
use Rattle.bs_net.proofs.Hops.{parts_of}
use Rattle.bs_net.proofs.torus.Torus.processors.Goals as goal

pub returns-clause-some : goal.returns-clause-some
returns-clause-some c =
    let torus = c.args.self.now in
    let parts = parts_of torus.sizes torus.per_node torus.in_range in
    let some : 1 ≤ processors_of torus = omega (arith, parts.nodes, parts.enough) in
    let value = rw c.as_slice.ensures at c.capped_processors.ensures in
    omega (arith, some, value)
