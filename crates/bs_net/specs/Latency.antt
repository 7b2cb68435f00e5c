-- The ticks of a message between two processors.
use Rattle.std.specs.Prelude.{ℕ, ◌+◌, ◌*◌, ◌==◌, if◌then◌else◌}
use Rattle.std.specs.Int.{div_ceil}
use Rattle.bs_net.specs.Torus.{node_of, hops_of}
use Rattle.bs_net.specs.declared.torus.Torus.{Torus}
use Rattle.bs_net.specs.declared.cost.Costs.{Costs}

abbrev pub latency_of : Torus → Costs → ℕ → ℕ → ℕ → ℕ
latency_of torus costs from to bytes =
    if from == to then costs.own
    else (if node_of torus from == node_of torus to then costs.local
    else (costs.base + costs.hop * hops_of torus from to + div_ceil (bytes * costs.num) costs.den))
