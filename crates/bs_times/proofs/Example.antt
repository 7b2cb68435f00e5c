-- The waves of the worked example.
use Rattle.std.proofs.Common.{◌≡◌, ℕ, zero, suc, ◌<◌, ◌≤◌, [], ◌∷◌, inl, inr, refl, arith}
use Rattle.bs_log.specs.Lists.{Mem}
use Rattle.bs_times.specs.Net.{HasRow}
use Rattle.bs_times.specs.Times.{IsOn, IsTable, IsConsistent}
use Rattle.bs_times.specs.Example.{net, starts, ticks}

by_four : (P : ℕ → Type 0) → P 1 → P 2 → P 3 → P 4 → (i : ℕ) → 1 ≤ i → i ≤ 4 → P i
by_four P a b c d zero h k = absurd (omega (arith, h))
by_four P a b c d (suc zero) h k = a
by_four P a b c d (suc (suc zero)) h k = b
by_four P a b c d (suc (suc (suc zero))) h k = c
by_four P a b c d (suc (suc (suc (suc zero)))) h k = d
by_four P a b c d (suc (suc (suc (suc (suc i))))) h k = absurd (omega (arith, k))

never : {A : Type 0} (m n : ℕ) → m < n → m ≡ n → A
never m n h e = absurd (omega (arith, h, e))

never_below : {A : Type 0} (m n : ℕ) → n < m → m ≡ n → A
never_below m n h e = absurd (omega (arith, h, e))

on_0 : (i : ℕ) → IsOn net 0 i → Mem i (1 ∷ 4 ∷ [])
on_0 i on = by_four (λ i. net.home i ≡ 0 → Mem i (1 ∷ 4 ∷ [])) (λ e. inl refl) (never_below 1 0 (omega arith)) (never_below 1 0 (omega arith)) (λ e. inr (inl refl)) i on.0.0 on.0.1 on.1

on_1 : (i : ℕ) → IsOn net 1 i → Mem i (2 ∷ 3 ∷ [])
on_1 i on = by_four (λ i. net.home i ≡ 1 → Mem i (2 ∷ 3 ∷ [])) (never 0 1 (omega arith)) (λ e. inl refl) (λ e. inr (inl refl)) (never 0 1 (omega arith)) i on.0.0 on.0.1 on.1

on_more : (p i : ℕ) → IsOn net (suc (suc p)) i → ⊥
on_more p i on = by_four (λ i. net.home i ≡ suc (suc p) → ⊥) (never 0 (suc (suc p)) (omega arith)) (never 1 (suc (suc p)) (omega arith)) (never 1 (suc (suc p)) (omega arith)) (never 0 (suc (suc p)) (omega arith)) i on.0.0 on.0.1 on.1

is_on : (p a : ℕ) → HasRow net a → net.home a ≡ p → (i : ℕ) → i ≡ a → IsOn net p i
is_on p a h e i g = rw g (h, e)

in_0 : (i : ℕ) → Mem i (1 ∷ 4 ∷ []) → IsOn net 0 i
in_0 i (inl e) = is_on 0 1 (omega arith, omega arith) refl i e
in_0 i (inr (inl e)) = is_on 0 4 (omega arith, omega arith) refl i e
in_0 i (inr (inr m)) = absurd m

in_1 : (i : ℕ) → Mem i (2 ∷ 3 ∷ []) → IsOn net 1 i
in_1 i (inl e) = is_on 1 2 (omega arith, omega arith) refl i e
in_1 i (inr (inl e)) = is_on 1 3 (omega arith, omega arith) refl i e
in_1 i (inr (inr m)) = absurd m

turn : (i : ℕ) → Mem i (1 ∷ 4 ∷ []) → Mem i (4 ∷ 1 ∷ [])
turn i (inl e) = inr (inl e)
turn i (inr (inl e)) = inl e
turn i (inr (inr m)) = absurd m

back : (i : ℕ) → Mem i (4 ∷ 1 ∷ []) → Mem i (1 ∷ 4 ∷ [])
back i (inl e) = inr (inl e)
back i (inr (inl e)) = inl e
back i (inr (inr m)) = absurd m

pub first_wave : IsTable net (ticks 0 0 0) (starts 0 0 2 10)
first_wave zero = record { order = 1 ∷ 4 ∷ []; all = λ i. (on_0 i, in_0 i); runs = (refl, (inr (refl, omega arith), tt), (refl, tt, tt)) }
first_wave (suc zero) = record { order = 2 ∷ 3 ∷ []; all = λ i. (on_1 i, in_1 i); runs = (refl, (inl (omega arith), tt), (refl, tt, tt)) }
first_wave (suc (suc p)) = record { order = []; all = λ i. (on_more p i, λ m. absurd m); runs = tt }

pub second_wave : IsTable net (ticks 16 8 25) (starts 18 0 25 8)
second_wave zero = record { order = 4 ∷ 1 ∷ []; all = λ i. (λ m. turn i (on_0 i m), λ m. in_0 i (back i m)); runs = (refl, (inl (omega arith), tt), (refl, tt, tt)) }
second_wave (suc zero) = record { order = 2 ∷ 3 ∷ []; all = λ i. (on_1 i, in_1 i); runs = (refl, (inl (omega arith), tt), (refl, tt, tt)) }
second_wave (suc (suc p)) = record { order = []; all = λ i. (on_more p i, λ m. absurd m); runs = tt }

pub consistent : IsConsistent net (starts 18 0 23 8)
consistent zero = record { order = 4 ∷ 1 ∷ []; all = λ i. (λ m. turn i (on_0 i m), λ m. in_0 i (back i m)); runs = (refl, (inl (omega arith), tt), (refl, tt, tt)) }
consistent (suc zero) = record { order = 2 ∷ 3 ∷ []; all = λ i. (on_1 i, in_1 i); runs = (refl, (inl (omega arith), tt), (refl, tt, tt)) }
consistent (suc (suc p)) = record { order = []; all = λ i. (on_more p i, λ m. absurd m); runs = tt }

pub third_wave : IsTable net (ticks 16 8 23) (starts 18 0 23 8)
third_wave zero = record { order = 4 ∷ 1 ∷ []; all = λ i. (λ m. turn i (on_0 i m), λ m. in_0 i (back i m)); runs = (refl, (inl (omega arith), tt), (refl, tt, tt)) }
third_wave (suc zero) = record { order = 2 ∷ 3 ∷ []; all = λ i. (on_1 i, in_1 i); runs = (refl, (inl (omega arith), tt), (refl, tt, tt)) }
third_wave (suc (suc p)) = record { order = []; all = λ i. (on_more p i, λ m. absurd m); runs = tt }
