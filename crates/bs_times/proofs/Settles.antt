-- Waves have one first wave that changes no tick.
use Rattle.std.proofs.Common.{◌≡◌, ◌≤◌, ◌<◌, ◌+◌, ◌*◌, ◌⊎◌, inl, inr, ℕ, zero, suc, List, [], ◌∷◌, refl, subst, arith}
use Rattle.std.proofs.lemmas.Bool.{cases_eq}
use Rattle.bs_log.specs.declared.log.MailRef.{MailRef}
use Rattle.bs_log.specs.Lists.{Mem}
use Rattle.bs_times.specs.Net.{Net, Starts, Ticks, Causal}
use Rattle.bs_times.specs.Times.{IsConsistent, AreWaves, SameTicks, IsStill, Settles, greatest_to, budget}
use Rattle.bs_times.proofs.Members.{cases_le}
use Rattle.bs_times.proofs.Listed.{Decided, listed_to, listed_in, in_listed}
use Rattle.bs_times.proofs.Exists.{consistent_exists}
use Rattle.bs_times.proofs.Waves.{waves_settle}
use Rattle.bs_times.proofs.Repeated.{same_wave}

all_or_not : (held given : Ticks) (ms : List MailRef) → Decided ((m : MailRef) → Mem m ms → held m ≡ given m)
all_or_not held given [] = inl (λ m i. absurd i)
all_or_not held given (k ∷ ms) = go (cases_eq (held k) (given k)) (all_or_not held given ms)
  where
    all : held k ≡ given k → ((m : MailRef) → Mem m ms → held m ≡ given m) → (m : MailRef) → Mem m (k ∷ ms) → held m ≡ given m
    all e h m (inl s) = rw s e
    all e h m (inr i) = h m i

    go : Decided (held k ≡ given k) → Decided ((m : MailRef) → Mem m ms → held m ≡ given m) → Decided ((m : MailRef) → Mem m (k ∷ ms) → held m ≡ given m)
    go (inr n) h = inr (λ f. n (f k (inl refl)))
    go (inl e) (inr n) = inr (λ f. n (λ m i. f m (inr i)))
    go (inl e) (inl h) = inl (all e h)

same_or_not : (net : Net) (held given : Ticks) → Decided (SameTicks net held given)
same_or_not net held given = go (all_or_not held given (listed_to net net.rows))
  where
    go : Decided ((m : MailRef) → Mem m (listed_to net net.rows) → held m ≡ given m) → Decided (SameTicks net held given)
    go (inl h) = inl (λ m l. h m (listed_in net net.rows l.0 m l.1.0 l.1.1 l.2))
    go (inr n) = inr (λ f. n (λ m i. f m (in_listed net net.rows m (omega arith) i)))

-- the first still wave up to n, or none.
first_to : (net : Net) (ticks : ℕ → Ticks) (n : ℕ) → ((k : ℕ) × (k ≤ n) × Settles net ticks k) ⊎ ((j : ℕ) → j ≤ n → IsStill net ticks j → ⊥)
first_to net ticks zero = go (same_or_not net (ticks 1) (ticks 0))
  where
    go : Decided (IsStill net ticks 0) → ((k : ℕ) × (k ≤ 0) × Settles net ticks k) ⊎ ((j : ℕ) → j ≤ 0 → IsStill net ticks j → ⊥)
    go (inl s) = inl (0, omega arith, record { still = s; first = λ j lt. absurd (omega (arith, lt)) })
    go (inr n) = inr (λ j le s. let e : j ≡ 0 = omega (arith, le) in n (subst (IsStill net ticks) e s))
first_to net ticks (suc n) = go (first_to net ticks n) (same_or_not net (ticks (suc (suc n))) (ticks (suc n)))
  where
    last : (((j : ℕ) → j ≤ n → IsStill net ticks j → ⊥)) → (IsStill net ticks (suc n) → ⊥) → (j : ℕ) → (j ≤ n) ⊎ (n < j) → j ≤ suc n → IsStill net ticks j → ⊥
    last f g j (inl low) le s = f j low s
    last f g j (inr high) le s = let e : j ≡ suc n = omega (arith, high, le) in g (subst (IsStill net ticks) e s)

    go : ((k : ℕ) × (k ≤ n) × Settles net ticks k) ⊎ ((j : ℕ) → j ≤ n → IsStill net ticks j → ⊥) → Decided (IsStill net ticks (suc n)) → ((k : ℕ) × (k ≤ suc n) × Settles net ticks k) ⊎ ((j : ℕ) → j ≤ suc n → IsStill net ticks j → ⊥)
    go (inl d) s = inl (d.0, omega (arith, d.1), d.2)
    go (inr f) (inl s) = inl (suc n, omega arith, record { still = s; first = λ j lt. f j (omega (arith, lt)) })
    go (inr f) (inr g) = inr (λ j le. last f g j (cases_le j n) le)

pub some_settles : (net : Net) → Causal net → (ticks : ℕ → Ticks) → AreWaves net ticks → (k : ℕ) × (suc k ≤ budget net) × Settles net ticks k
some_settles net c ticks waves = go (first_to net ticks n)
  where
    n : ℕ
    n = net.rows * (greatest_to net.depth net.rows + 1) + 1

    enough : budget net ≤ suc n
    enough = omega arith

    table : (s : Starts) × IsConsistent net s
    table = consistent_exists net c

    go : ((k : ℕ) × (k ≤ n) × Settles net ticks k) ⊎ ((j : ℕ) → j ≤ n → IsStill net ticks j → ⊥) → (k : ℕ) × (suc k ≤ budget net) × Settles net ticks k
    go (inl d) = (d.0, omega (arith, d.1), d.2)
    go (inr f) = absurd (f n (omega arith) (waves_settle net c table.0 table.1 ticks waves n enough).0)

pub one_settles : (net : Net) (ticks : ℕ → Ticks) (j k : ℕ) → Settles net ticks j → Settles net ticks k → j ≡ k
one_settles net ticks j k a b = go (cases_le j k) (cases_le k j)
  where
    go : (j ≤ k) ⊎ (k < j) → (k ≤ j) ⊎ (j < k) → j ≡ k
    go (inr lt) h = absurd (a.first k lt b.still)
    go (inl le) (inr lt) = absurd (b.first j lt a.still)
    go (inl le) (inl ge) = omega (arith, le, ge)

pub stays_still : (net : Net) → Causal net → (ticks : ℕ → Ticks) → AreWaves net ticks → (k : ℕ) → IsStill net ticks k → (j : ℕ) → k ≤ j → IsStill net ticks j
stays_still net c ticks waves k still zero le = let e : k ≡ 0 = omega (arith, le) in subst (IsStill net ticks) e still
stays_still net c ticks waves k still (suc j) le = go (stays_still net c ticks waves k still j) (cases_le k j)
  where
    go : (k ≤ j → IsStill net ticks j) → (k ≤ j) ⊎ (j < k) → IsStill net ticks (suc j)
    go ih (inl low) = same_wave net c (ticks (suc j)) (ticks j) (ticks (suc (suc j))) (ticks (suc j)) (waves (suc j)) (waves j) (ih low)
    go ih (inr high) = let e : k ≡ suc j = omega (arith, high, le) in subst (IsStill net ticks) e still
