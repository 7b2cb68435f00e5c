-- Where homes and latencies lie, for all values of their arguments at once.
use Rattle.std.proofs.Common.{◌≤◌, ◌<◌, ◌^◌, ℕ, ◌*◌, ◌+◌, ◌/◌, ◌==◌, true, false, inl, inr, arith, IsTrue, length, List, Bool, if◌then◌else◌, slice_index, nat_lt}
use Rattle.std.specs.List.{list_all}
use Rattle.std.proofs.lemmas.Bool.Decides.{nat_tests}
use Rattle.std.specs.Int.{div_ceil}
use Rattle.std.proofs.Math.Nat.{mul-le-mul, mul-le-mul_right, le-mul_of_pos_right}
use Rattle.std.proofs.lemmas.Bool.{cases_lt}
use Rattle.std.proofs.lemmas.Grind.{div_ceil_times, common_steps}
use Rattle.bs_net.specs.Home.{home_of, is_within, has_length}
use Rattle.bs_net.specs.Latency.{latency_of}
use Rattle.bs_net.specs.Torus.{node_of, hops_of}
use Rattle.bs_net.specs.declared.cost.Costs.{Costs}
use Rattle.bs_net.specs.declared.place.Place.{Place}
use Rattle.bs_net.specs.declared.place.Place.TheVariants.{Block, Cycle, Listed}
use Rattle.bs_net.specs.declared.torus.Torus.{Torus}
use Rattle.bs_net.proofs.Hops.{parts_of, hops_between-fewer}

-- a processor is there for each chare
pub home_of-below : (place : Place) (chare chares processors : ℕ) → chare < chares → 1 ≤ processors
    → IsTrue (has_length place chares) → IsTrue (is_within place processors) → home_of place chare chares processors < processors
home_of-below Block chare chares processors lt some whole within = block-below chare chares processors lt some
  where
    block-below : (chare chares processors : ℕ) → chare < chares → 1 ≤ processors → chare / div_ceil chares processors < processors
    block-below chare chares processors lt some = grind (arith, common_steps, div_ceil_times)
home_of-below Cycle chare chares processors lt some whole within = omega arith
home_of-below (Listed homes) chare chares processors lt some whole within = listed-below homes chare chares processors lt whole within
  where
    listed-below : (homes : List ℕ) (chare chares processors : ℕ) → chare < chares → IsTrue (length homes == chares)
        → IsTrue (list_all (λ home. nat_lt home processors) homes) → slice_index homes chare < processors
    listed-below homes chare chares processors lt whole within = grind (arith, common_steps, nat_tests)

pub div_ceil-le : (n d : ℕ) → 1 ≤ d → div_ceil n d ≤ n
div_ceil-le n d some = elim (cases_lt n (div_ceil n d)) [
  | inr under ↦ under
  | inl over ↦
      let bounds = div_ceil_times n d some in
      let more : (n + 1) * d ≤ div_ceil n d * d = mul-le-mul_right d (omega (arith, over)) in
      let less : n ≤ n * d = le-mul_of_pos_right n some in
      absurd (omega (arith, bounds.1, more, less))
]

pub record IsLatency (ticks : ℕ) : Type 0 where
  pub some : 1 ≤ ticks
  pub most : ticks < 2 ^ 40

between-nodes : (base hop hops bytes num den : ℕ) → 1 ≤ base → base ≤ 2 ^ 38 → hop ≤ 4194304 → hops < 65536 → bytes ≤ 2 ^ 30 → num ≤ 256 → 1 ≤ den
    → IsLatency (base + hop * hops + div_ceil (bytes * num) den)
between-nodes base hop hops bytes num den some small hop_most hops_most few num_most den_some =
    let way : hop * hops ≤ 4194304 * 65536 = mul-le-mul {m₂ = 65536} hop_most (omega arith) in
    let size : bytes * num ≤ 2 ^ 30 * 256 = mul-le-mul few num_most in
    let rounded = div_ceil-le (bytes * num) den den_some in
    record { some = omega arith; most = omega (arith, way, size, rounded) }

either : (k : Bool) (a b : ℕ) → IsLatency a → IsLatency b → IsLatency (if k then a else b)
either true a b in_a in_b = in_a
either false a b in_a in_b = in_b

pub latency_of-bounds : (torus : Torus) (costs : Costs) (from to bytes : ℕ) → bytes ≤ 2 ^ 30 → IsLatency (latency_of torus costs from to bytes)
latency_of-bounds torus costs from to bytes few =
    let range = costs.in_range in
    let parts = parts_of torus.sizes torus.per_node torus.in_range in
    let fewer = hops_between-fewer torus.sizes (node_of torus from) (node_of torus to) parts.lengths in
    let far = between-nodes costs.base costs.hop (hops_of torus from to) bytes costs.num costs.den
    range.base.0 range.base.1 range.hop (omega (arith, fewer, parts.enough, parts.most)) few range.num range.den.0 in
    either (from == to) costs.own _ (record { some = range.own.0; most = omega arith })
    (either (node_of torus from == node_of torus to) costs.local _ (record { some = range.local.0; most = omega arith }) far)
