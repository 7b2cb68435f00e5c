use Rattle.std.proofs.Common.{◌∙◌, ◌-◌, ◌^◌, rules, arith}
use Rattle.std.proofs.lemmas.List.{at_drop_all}
use Rattle.bs_net.specs.Ring.{nodes_of}
use Rattle.bs_net.proofs.Products.{min-mul-drop}
use Rattle.bs_net.proofs.torus.capped_processors.Goals as goal

pub loop-size-preserved : goal.loop-size-preserved
loop-size-preserved c = record {
  fits = omega arith;
  product =
      min-mul-drop c.loop-size.processors c.saturating_mul-processors.result (2 ^ 64 - 1) c.loop-size.size-index c.args.sizes.now
      c.loop-size-test.true (search rules)
      ∙ c.loop-size.invariant.product;
}

pub returns : goal.returns
returns c =
    let none = at_drop_all nodes_of c.args.sizes.now c.loop-size.size-index c.loop-size-test.false in
    let product = rw none at c.loop-size.invariant.product in
    omega (arith, product, c.loop-size.invariant.fits)
