-- The times of the program `exchange`, evaluated.
use Rattle.std.proofs.Common.{◌≡◌, ◌<◌, ◌≤◌, ℕ, zero, suc, List, [], ◌∷◌, inl, inr, refl, sym, ap, subst, ◌∙◌, arith}
use Rattle.bs_log.specs.declared.history.History.{History}
use Rattle.bs_log.specs.Collected.{number_of, row_of, log_of}
use Rattle.bs_log.specs.Lists.{Mem}
use Rattle.bs_semantics.specs.Rounds.{round}
use Rattle.bs_semantics.specs.Verdict.{clean}
use Rattle.bs_semantics.specs.Serial.{timed, IsSerial}
use Rattle.bs_semantics.specs.Examples.{exchange, both_histories}
use Rattle.bs_semantics.proofs.Examples.{exchange_runs}
use Rattle.bs_times.specs.Machine.{IsTimely}
use Rattle.bs_times.specs.Net.{HasRow, net_of}
use Rattle.bs_times.specs.Times.{IsOn, IsConsistent}
use Rattle.bs_times.specs.Outcomes.{outcome_of}
use Rattle.bs_serial.specs.Example.{machine, log, starts, outcome}
use Rattle.bs_serial.proofs.Whole.{model_gives}
use Rattle.bs_serial.proofs.Verdicts.{round_of}

-- ---- the log

pub log_is : log_of both_histories 1 ≡ log
unfolding log_of row_of number_of
log_is = refl

-- ---- its table

by_four : (P : ℕ → Type 0) → P 1 → P 2 → P 3 → P 4 → (i : ℕ) → 1 ≤ i → i ≤ 4 → P i
by_four P a b c d zero h k = absurd (omega (arith, h))
by_four P a b c d (suc zero) h k = a
by_four P a b c d (suc (suc zero)) h k = b
by_four P a b c d (suc (suc (suc zero))) h k = c
by_four P a b c d (suc (suc (suc (suc zero)))) h k = d
by_four P a b c d (suc (suc (suc (suc (suc i))))) h k = absurd (omega (arith, k))

never : {A : Type 0} (m n : ℕ) → m < n → m ≡ n → A
never m n h e = absurd (omega (arith, h, e))

never_below : {A : Type 0} (m n : ℕ) → n < m → m ≡ n → A
never_below m n h e = absurd (omega (arith, h, e))

on_0 : (i : ℕ) → IsOn (net_of log machine) 0 i → Mem i (1 ∷ 2 ∷ [])
on_0 i on = by_four (λ i. (net_of log machine).home i ≡ 0 → Mem i (1 ∷ 2 ∷ [])) (λ e. inl refl) (λ e. inr (inl refl)) (never_below 1 0 (omega arith)) (never_below 1 0 (omega arith)) i on.0.0 on.0.1 on.1

on_1 : (i : ℕ) → IsOn (net_of log machine) 1 i → Mem i (3 ∷ 4 ∷ [])
on_1 i on = by_four (λ i. (net_of log machine).home i ≡ 1 → Mem i (3 ∷ 4 ∷ [])) (never 0 1 (omega arith)) (never 0 1 (omega arith)) (λ e. inl refl) (λ e. inr (inl refl)) i on.0.0 on.0.1 on.1

on_more : (p i : ℕ) → IsOn (net_of log machine) (suc (suc p)) i → ⊥
on_more p i on = by_four (λ i. (net_of log machine).home i ≡ suc (suc p) → ⊥) (never 0 (suc (suc p)) (omega arith)) (never 0 (suc (suc p)) (omega arith)) (never 1 (suc (suc p)) (omega arith)) (never 1 (suc (suc p)) (omega arith)) i on.0.0 on.0.1 on.1

is_on : (p a : ℕ) → HasRow (net_of log machine) a → (net_of log machine).home a ≡ p → (i : ℕ) → i ≡ a → IsOn (net_of log machine) p i
is_on p a h e i g = rw g (h, e)

in_0 : (i : ℕ) → Mem i (1 ∷ 2 ∷ []) → IsOn (net_of log machine) 0 i
in_0 i (inl e) = is_on 0 1 (omega arith, omega arith) refl i e
in_0 i (inr (inl e)) = is_on 0 2 (omega arith, omega arith) refl i e
in_0 i (inr (inr m)) = absurd m

in_1 : (i : ℕ) → Mem i (3 ∷ 4 ∷ []) → IsOn (net_of log machine) 1 i
in_1 i (inl e) = is_on 1 3 (omega arith, omega arith) refl i e
in_1 i (inr (inl e)) = is_on 1 4 (omega arith, omega arith) refl i e
in_1 i (inr (inr m)) = absurd m

pub consistent : IsConsistent (net_of log machine) starts
consistent zero = record { order = 1 ∷ 2 ∷ []; all = λ i. (on_0 i, in_0 i); runs = (refl, (inl (omega arith), tt), (refl, tt, tt)) }
consistent (suc zero) = record { order = 3 ∷ 4 ∷ []; all = λ i. (on_1 i, in_1 i); runs = (refl, (inl (omega arith), tt), (refl, tt, tt)) }
consistent (suc (suc p)) = record { order = []; all = λ i. (on_more p i, λ m. absurd m); runs = tt }

-- ---- and what the model gives

timely : IsTimely machine
timely = record { latency = λ from to bytes l. (omega arith, omega arith); duration = λ cost l m. (l, omega (arith, m)) }

told : (hs : List History) → hs ≡ both_histories → IsConsistent (net_of (log_of hs 1) machine) starts × (outcome_of (log_of hs 1) machine starts ≡ outcome)
told hs e =
    let same : log_of hs 1 ≡ log = ap (λ hs. log_of hs 1) e ∙ log_is in
    (subst (λ l. IsConsistent (net_of l machine) starts) (sym same) consistent, ap (λ l. outcome_of l machine starts) same)

pub exchange_takes : IsSerial exchange 262144 machine (timed outcome)
exchange_takes =
    let c = round_of exchange 262144 (clean both_histories) both_histories exchange_runs.verdict refl in
    let t = told (round exchange 262144 c.number) c.is in
    subst (λ o. IsSerial exchange 262144 machine (timed o)) t.1 (model_gives exchange 262144 machine c.number starts timely c.clean_there t.0)
