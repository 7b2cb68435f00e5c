-- The ranges of the numbers of a torus, of a place and of the costs of a message.
use Rattle.std.specs.Prelude.{ℕ, ◌≤◌, ◌*◌, ◌^◌, nat_le, Bool, ◌&&◌, List, length}
use Rattle.std.specs.List.{list_all}
use Rattle.bs_net.specs.Ring.{nodes_of}

-- the most processors that a machine has, which is also the longest ring and the fullest node
abbrev pub most_processors : ℕ
most_processors = 65536

-- how long a ring may be, and how many processors may stand on a node
abbrev pub is_size : ℕ → Bool
is_size n = nat_le 1 n && nat_le n most_processors

abbrev pub processors_in : List ℕ → ℕ → ℕ
processors_in sizes per_node = per_node * nodes_of sizes

abbrev pub are_sizes : List ℕ → Bool
are_sizes sizes = nat_le 1 (length sizes) && nat_le (length sizes) 6 && list_all is_size sizes

abbrev pub is_torus : List ℕ → ℕ → Bool
is_torus sizes per_node = are_sizes sizes && is_size per_node && nat_le (processors_in sizes per_node) most_processors

-- `num` ticks for each `den` bytes
pub record IsCosts (own_ticks local_ticks base_ticks hop_ticks num_ticks den_bytes : ℕ) : Type 0 where
  pub own : (1 ≤ own_ticks) × (own_ticks ≤ 2 ^ 38)
  pub local : (1 ≤ local_ticks) × (local_ticks ≤ 2 ^ 38)
  pub base : (1 ≤ base_ticks) × (base_ticks ≤ 2 ^ 38)
  pub hop : hop_ticks ≤ 4194304
  pub num : num_ticks ≤ 256
  pub den : (1 ≤ den_bytes) × (den_bytes ≤ 65535)
