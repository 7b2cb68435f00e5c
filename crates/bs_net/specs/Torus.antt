-- What a torus tells of its processors.
use Rattle.std.specs.Prelude.{ℕ, ◌/◌}
use Rattle.bs_net.specs.Range.{processors_in}
use Rattle.bs_net.specs.Ring.{hops_between}
use Rattle.bs_net.specs.declared.torus.Torus.{Torus}

abbrev pub processors_of : Torus → ℕ
processors_of torus = processors_in torus.sizes torus.per_node

-- the node of a processor: processors are counted node by node
abbrev pub node_of : Torus → ℕ → ℕ
node_of torus processor = processor / torus.per_node

-- the hops between the nodes of two processors
abbrev pub hops_of : Torus → ℕ → ℕ → ℕ
hops_of torus a b = hops_between torus.sizes (node_of torus a) (node_of torus b)
