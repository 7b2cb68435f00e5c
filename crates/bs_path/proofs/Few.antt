-- A chain whose places keep the rules has no more rows than the log.
use Rattle.std.proofs.Common.{◌≡◌, ◌≤◌, ◌<◌, ◌+◌, ◌⊎◌, inl, inr, ℕ, zero, suc, if◌then◌else◌, nat_lt, Option, Some, None, ap, arith}
use Rattle.std.proofs.lemmas.Bool.Decides.{nat_tests}
use Rattle.bs_times.specs.Net.{Net, Starts}
use Rattle.bs_path.specs.declared.links.ChainRow.{ChainRow}

-- how many of the rows 1 to n start before tick t
abbrev pub below : Starts → ℕ → ℕ → ℕ
below s t zero = 0
below s t (suc n) = (if nat_lt (s (suc n)) t then 1 else 0) + below s t n

pub below_few : (s : Starts) (t n : ℕ) → below s t n ≤ n
below_few s t zero = omega arith
below_few s t (suc n) = let ih = below_few s t n in grind (arith, ih)

grows : (s : Starts) (t u n : ℕ) → t ≤ u → below s t n ≤ below s u n
grows s t u zero le = omega arith
grows s t u (suc n) le = let ih = grows s t u n le in grind (arith, nat_tests, ih)

-- one more where a row starts between
pub below_more : (s : Starts) (t u n k : ℕ) → t ≤ s k → s k < u → 1 ≤ k → k ≤ n → suc (below s t n) ≤ below s u n
below_more s t u zero k le lt some most = absurd (omega (arith, some, most))
below_more s t u (suc n) k le lt some most = go (λ h. below_more s t u n k le lt some h) (order n k)
  where
    order : (a b : ℕ) → (a < b) ⊎ (b ≤ a)
    order a b = grind arith

    last : (x a b : ℕ) → t ≤ x → x < u → a ≤ b → suc ((if nat_lt x t then 1 else 0) + a) ≤ (if nat_lt x u then 1 else 0) + b
    last x a b le lt h = grind (arith, nat_tests)

    more : (x a b : ℕ) → t ≤ u → suc a ≤ b → suc ((if nat_lt x t then 1 else 0) + a) ≤ (if nat_lt x u then 1 else 0) + b
    more x a b le h = grind (arith, nat_tests)

    go : (k ≤ n → suc (below s t n) ≤ below s u n) → (n < k) ⊎ (k ≤ n) → suc (below s t (suc n)) ≤ below s u (suc n)
    go ih (inl h) = let e : k ≡ suc n = omega (arith, h, most) in last (s (suc n)) (below s t n) (below s u n) (omega (arith, le, ap s e)) (omega (arith, lt, ap s e)) (grows s t u n (omega (arith, le, lt)))
    go ih (inr h) = more (s (suc n)) (below s t n) (below s u n) (omega (arith, le, lt)) (ih h)

-- the tick before which the rows up to a given one start
abbrev pub up_to : Option ChainRow → ℕ
up_to None = 0
up_to (Some b) = suc b.start

-- as many places as were gone through, at most
abbrev pub AreFew : Net → Starts → Option ChainRow → ℕ → Type 0
AreFew net s last n = n ≤ below s (up_to last) net.rows
