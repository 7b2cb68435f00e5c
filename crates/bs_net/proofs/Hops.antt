-- Two nodes lie fewer hops from each other than there are nodes.
use Rattle.std.proofs.Common.{◌≡◌, ◌≤◌, ◌<◌, ℕ, ◌*◌, ◌+◌, ◌%◌, ◌/◌, zero, suc, List, [], ◌∷◌, true, ◌&&◌, arith, length, drop, get_or, refl}
use Rattle.std.proofs.Math.Nat.{le-mul_of_pos_right}
use Rattle.std.proofs.lemmas.Bool.{and_parts, leb-true}
use Rattle.std.proofs.lemmas.List.{drop_more}
use Rattle.std.specs.List.{list_all}
use Rattle.bs_net.specs.Range.{is_size, are_sizes, is_torus, processors_in}
use Rattle.bs_net.specs.Ring.{nodes_of, steps_in_ring, hops_between}

pub is_size-some : (size : ℕ) → is_size size ≡ true → 1 ≤ size
is_size-some size fits = leb-true 1 size (and_parts _ _ fits).0

steps_in_ring-fewer : (size a b : ℕ) → 1 ≤ size → steps_in_ring size a b < size
steps_in_ring-fewer size a b some = omega arith

-- a sum is at most one more than the product of two numbers that are not 0
sum-below-product : (n m : ℕ) → 1 ≤ n → 1 ≤ m → n + m ≤ n * m + 1
sum-below-product zero m some_n some_m = omega arith
sum-below-product (suc k) m some_n some_m =
    let more : k ≤ k * m = le-mul_of_pos_right k some_m in
    omega (arith, more)

pub hops_between-fewer : (sizes : List ℕ) (a b : ℕ) → list_all is_size sizes ≡ true → hops_between sizes a b < nodes_of sizes
hops_between-fewer [] a b fit = omega arith
hops_between-fewer (size ∷ sizes) a b fit =
    let parts = and_parts _ _ fit in
    let some = is_size-some size parts.0 in
    let here = steps_in_ring-fewer size (a % size) (b % size) some in
    let rest = hops_between-fewer sizes (a / size) (b / size) parts.1 in
    let product = sum-below-product size (nodes_of sizes) some (omega (arith, rest)) in
    omega (arith, here, rest, product)

-- what the range of a torus says, part by part
pub record Parts (sizes : List ℕ) (per_node : ℕ) : Type 0 where
  pub lengths : list_all is_size sizes ≡ true
  pub node : 1 ≤ per_node
  pub nodes : 1 ≤ nodes_of sizes
  pub enough : nodes_of sizes ≤ processors_in sizes per_node
  pub most : processors_in sizes per_node ≤ 65536

pub parts_of : (sizes : List ℕ) (per_node : ℕ) → is_torus sizes per_node ≡ true → Parts sizes per_node
parts_of sizes per_node fits =
    let halves = and_parts (are_sizes sizes && is_size per_node) _ fits in
    let front = and_parts (are_sizes sizes) (is_size per_node) halves.0 in
    let lengths : list_all is_size sizes ≡ true = (and_parts _ (list_all is_size sizes) front.0).1 in
    let node : 1 ≤ per_node = is_size-some per_node front.1 in
    let fewer = hops_between-fewer sizes 0 0 lengths in
    let more : nodes_of sizes ≤ nodes_of sizes * per_node = le-mul_of_pos_right (nodes_of sizes) node in
    record {
      lengths = lengths;
      node = node;
      nodes = omega (arith, fewer);
      enough = omega (arith, more);
      most = leb-true (processors_in sizes per_node) 65536 halves.1;
    }

pub hops_between-drop : (sizes : List ℕ) (i a b : ℕ) → i < length sizes
    → hops_between (drop i sizes) a b
    ≡ steps_in_ring (get_or sizes i 0) (a % get_or sizes i 0) (b % get_or sizes i 0) + hops_between (drop (i + 1) sizes) (a / get_or sizes i 0) (b / get_or sizes i 0)
hops_between-drop sizes i a b lt = rw (drop_more sizes i 0 lt) refl
