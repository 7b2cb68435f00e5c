-- The laws of a station that counts down.
use Rattle.std.proofs.Common.{◌≡◌, ℕ, zero, suc, ◌+◌, ◌%◌, ◌<◌, subst, arith, mod-lt}
use Rattle.bs_floor.specs.Stations.{AllFit}
use Rattle.bs_floor.specs.Countdown.{Countdown, next_sum, sends_of, IsFew, IsSum}

pub opens_with_sum : (j p : ℕ) → p < j → IsSum j p (p, j, 0)
opens_with_sum j p h = (h, omega arith)

pub keeps_sum : (j p : ℕ) (s : Countdown) (x : ℕ) → s.1 ≡ j → s.0 ≡ p → IsSum j p s → IsFew j p x → IsSum j p (next_sum s x)
keeps_sum j p s x ej ep h fit = (h.0, mod-lt (s.2 + x) (omega arith))

pub sends_go_round : (j p : ℕ) (s : Countdown) (x : ℕ) → s.1 ≡ j → s.0 ≡ p → IsSum j p s → IsFew j p x → AllFit j (IsFew j) (sends_of s x)
sends_go_round j p s zero ej ep h fit = tt
sends_go_round j p s (suc n) ej ep h fit = let low = h.0 in (subst (λ (z : ℕ). (s.0 + 1) % s.1 < z) ej (mod-lt (s.0 + 1) (omega arith)), omega arith, tt)
