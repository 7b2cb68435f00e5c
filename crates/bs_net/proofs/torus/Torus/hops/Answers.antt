use Rattle.std.proofs.Common.{arith}
use Rattle.std.proofs.lemmas.List.{at_drop_all}
use Rattle.bs_net.specs.Ring.{hops_between}
use Rattle.bs_net.specs.Torus.{node_of}
use Rattle.bs_net.proofs.Hops.{parts_of, hops_between-fewer, hops_between-drop}
use Rattle.bs_net.proofs.torus.Torus.hops.Goals as goal

pub overflow_add-hops : goal.overflow_add-hops
overflow_add-hops c =
    let sizes = c.args.self.now.sizes in
    let parts = parts_of sizes c.args.self.now.per_node c.args.self.now.in_range in
    let fewer = hops_between-fewer sizes (node_of c.args.self.now c.args.a) (node_of c.args.self.now c.args.b) parts.lengths in
    let here = hops_between-drop c.as_slice-size-items.result.now c.loop-size.size-index c.loop-size.from c.loop-size.to c.loop-size-test.true in
    omega (arith, here, fewer, c.loop-size.invariant, c.ring_steps-hops.ensures.value)

pub returns-clause-fewer : goal.returns-clause-fewer
returns-clause-fewer c =
    let sizes = c.args.self.now.sizes in
    let parts = parts_of sizes c.args.self.now.per_node c.args.self.now.in_range in
    let fewer = hops_between-fewer sizes (node_of c.args.self.now c.args.a) (node_of c.args.self.now c.args.b) parts.lengths in
    let none = at_drop_all (λ rest. hops_between rest c.loop-size.from c.loop-size.to) c.as_slice-size-items.result.now c.loop-size.size-index c.loop-size-test.false in
    omega (arith, fewer, none, c.loop-size.invariant)
