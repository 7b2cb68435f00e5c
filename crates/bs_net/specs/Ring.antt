-- The nodes of a torus: a ring of nodes in each dimension (docs/machine-file.md).
use Rattle.std.specs.Prelude.{ℕ, ◌+◌, ◌*◌, ◌-◌, ◌/◌, ◌%◌, min, List, [], ◌∷◌}

-- how many nodes there are
abbrev pub nodes_of : List ℕ → ℕ
nodes_of [] = 1
nodes_of (size ∷ sizes) = size * nodes_of sizes

-- where a node stands in each ring; the place in the first ring changes fastest
abbrev pub coordinates_of : List ℕ → ℕ → List ℕ
coordinates_of [] node = []
coordinates_of (size ∷ sizes) node = (node % size) ∷ coordinates_of sizes (node / size)

-- how far two numbers lie from each other
abbrev pub apart : ℕ → ℕ → ℕ
apart a b = (a - b) + (b - a)

-- the shorter way between two places of a ring, in steps
abbrev pub steps_in_ring : ℕ → ℕ → ℕ → ℕ
steps_in_ring size a b = min (apart a b) (size - apart a b)

-- the steps between two nodes that are given by their coordinates
abbrev pub steps_between : List ℕ → List ℕ → List ℕ → ℕ
steps_between (size ∷ sizes) (a ∷ froms) (b ∷ tos) = steps_in_ring size a b + steps_between sizes froms tos
steps_between _ _ _ = 0

-- the hops between two nodes
abbrev pub hops_between : List ℕ → ℕ → ℕ → ℕ
hops_between sizes a b = steps_between sizes (coordinates_of sizes a) (coordinates_of sizes b)
