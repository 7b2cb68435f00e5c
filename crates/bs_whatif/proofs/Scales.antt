-- Fractions of costs, rounded up.
use Rattle.std.proofs.Common.{◌≤◌, ◌+◌, ◌*◌, inl, inr, ℕ, zero, suc, Bool, true, false, arith}
use Rattle.std.specs.Int.{div_ceil}
use Rattle.std.proofs.lemmas.Bool.{cases_lt}
use Rattle.std.proofs.lemmas.Grind.{div_ceil_times}
use Rattle.std.proofs.lemmas.Nat.{mul-le}
use Rattle.std.proofs.Math.Nat.{mul-le-mul_right, one-le-mul}
use Rattle.bs_whatif.specs.Rescaled.{IsFraction, scaled, scaled_if}

least_up : (n d k : ℕ) → 1 ≤ d → n ≤ k * d → div_ceil n d ≤ k
least_up n d k some le = elim (cases_lt k (div_ceil n d)) [
  | inr under ↦ under
  | inl over ↦
      let bounds = div_ceil_times n d some in
      let more : (k + 1) * d ≤ div_ceil n d * d = mul-le-mul_right d (omega (arith, over)) in
      absurd (omega (arith, bounds.1, more, le))
]

some_factor : (q d n : ℕ) → n ≤ q * d → 1 ≤ n → 1 ≤ q
some_factor zero d n enough some = omega (arith, enough)
some_factor (suc q) d n enough some = omega arith

module _ (num den : ℕ) (f : IsFraction num den) where
  divisor : 1 ≤ den
  divisor = omega (arith, f.some, f.up_to_one)

  scaled_some : (x : ℕ) → 1 ≤ x → 1 ≤ scaled num den x
  scaled_some x some = some_factor (scaled num den x) den (x * num) (div_ceil_times (x * num) den divisor).0 (one-le-mul some f.some)

  scaled_most : (x : ℕ) → scaled num den x ≤ x
  scaled_most x = least_up (x * num) den x divisor (mul-le x num x den (omega arith) f.up_to_one)

  scaled_more : (x y : ℕ) → x ≤ y → scaled num den x ≤ scaled num den y
  scaled_more x y le =
      let more : x * num ≤ y * num = mul-le-mul_right num le in
      least_up (x * num) den (scaled num den y) divisor (omega (arith, more, (div_ceil_times (y * num) den divisor).0))

  pub scaled_from : (is : Bool) (x : ℕ) → 1 ≤ x → 1 ≤ scaled_if is num den x
  scaled_from true x some = scaled_some x some
  scaled_from false x some = some

  pub scaled_to : (is : Bool) (x : ℕ) → scaled_if is num den x ≤ x
  scaled_to true x = scaled_most x
  scaled_to false x = omega arith

  pub scaled_up : (is : Bool) (x y : ℕ) → x ≤ y → scaled_if is num den x ≤ scaled_if is num den y
  scaled_up true x y le = scaled_more x y le
  scaled_up false x y le = le
