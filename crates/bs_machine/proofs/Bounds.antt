-- Where the numbers of a fitted machine lie.
use Rattle.std.proofs.Common.{◌≤◌, ◌^◌, ℕ, ◌*◌, zero, suc, arith}
use Rattle.std.specs.Int.{div_ceil}
use Rattle.std.proofs.lemmas.Grind.{div_ceil_times}
use Rattle.std.proofs.Math.Nat.{mul-le-mul, one-le-mul}
use Rattle.bs_net.proofs.Bounds.{div_ceil-le, home_of-below, latency_of-bounds}
use Rattle.bs_net.proofs.Hops.{parts_of}
use Rattle.bs_machine.specs.Fitted.{HasBounds, processors_of}
use Rattle.bs_machine.specs.declared.fitted.Fitted.{Fitted}

some-factor : (q d n : ℕ) → n ≤ q * d → 1 ≤ n → 1 ≤ q
some-factor zero d n enough some = omega (arith, enough)
some-factor (suc q) d n enough some = omega arith

div_ceil-some : (n d : ℕ) → 1 ≤ n → 1 ≤ d → 1 ≤ div_ceil n d
div_ceil-some n d some divisor = some-factor (div_ceil n d) d n (div_ceil_times n d divisor).0 some

pub has_bounds : (m : Fitted) → HasBounds m
has_bounds m =
    let torus = m.machine.torus in
    let parts = parts_of torus.sizes torus.per_node torus.in_range in
    let some : 1 ≤ processors_of m = omega (arith, parts.nodes, parts.enough) in
    record {
      processors = (some, parts.most);
      chares = m.chares_in_range;
      home = λ chare lt. home_of-below m.machine.place chare m.chares (processors_of m) lt some m.place_fits m.machine.homes_within;
      latency = λ from to bytes few.
          let bounds = latency_of-bounds torus m.machine.costs from to bytes few in
          (bounds.some, bounds.most);
      duration = λ cost one most.
          let speed = m.machine.speed in
          let product : cost * speed.num ≤ 2 ^ 32 * 65535 = mul-le-mul most speed.num_in_range.1 in
          let rounded = div_ceil-le (cost * speed.num) speed.den speed.den_in_range.0 in
          (div_ceil-some (cost * speed.num) speed.den (one-le-mul one speed.num_in_range.0) speed.den_in_range.0, omega (arith, product, rounded));
    }
