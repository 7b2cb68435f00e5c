-- Products that stop growing at a limit.
use Rattle.std.proofs.Common.{◌≡◌, ◌∙◌, ℕ, ◌*◌, ◌+◌, ◌≤◌, ◌<◌, min, get_or, drop, length, zero, suc, sym, ap, arith, List, inl, inr}
use Rattle.std.proofs.lemmas.Bool.{cases_lt}
use Rattle.std.proofs.Math.Nat.{min-eq_left, min-eq_right, le-mul_of_pos_right, mul_assoc}
use Rattle.std.proofs.lemmas.List.{drop_more}
use Rattle.bs_net.specs.Ring.{nodes_of}

-- a product that was cut off may be multiplied on
pub min-mul : (t n p most : ℕ) → min (min (t * n) most * p) most ≡ min (t * (n * p)) most
min-mul t n p most = elim (cases_lt most (t * n)) [
  | inl over ↦ over_by p over
  | inr under ↦ rw (min-eq_left under) (ap (λ x. min x most) (mul_assoc t n p))
]
  where
    over_by : (p : ℕ) → most < t * n → min (min (t * n) most * p) most ≡ min (t * (n * p)) most
    over_by zero over = omega arith
    over_by (suc q) over =
        let here : min (t * n) most ≡ most = min-eq_right (omega (arith, over)) in
        let left : most ≤ most * suc q = le-mul_of_pos_right most (omega arith) in
        let right : t * n ≤ (t * n) * suc q = le-mul_of_pos_right (t * n) (omega arith) in
        let same : (t * n) * suc q ≡ t * (n * suc q) = mul_assoc t n (suc q) in
        rw here (min-eq_right left ∙ sym (min-eq_right (rw (← same) (omega (arith, over, right)))))

pub min-mul-drop : (t total most i : ℕ) (sizes : List ℕ) → i < length sizes → total ≡ min (t * get_or sizes i 0) most
    → min (total * nodes_of (drop (i + 1) sizes)) most ≡ min (t * nodes_of (drop i sizes)) most
min-mul-drop t total most i sizes lt e =
    rw (e, drop_more sizes i 0 lt) (min-mul t (get_or sizes i 0) (nodes_of (drop (i + 1) sizes)) most)
