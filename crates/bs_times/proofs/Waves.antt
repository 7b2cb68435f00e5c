-- Waves come to rest.
use Rattle.std.proofs.Common.{subst, ◌≡◌, ℕ, zero, suc, ◌+◌, ◌*◌, ◌<◌, ◌≤◌, ◌⊎◌, inl, inr, refl, sym, ap, ◌∙◌, arith}
use Rattle.bs_log.specs.declared.log.MailRef.{MailRef}
use Rattle.bs_times.specs.Net.{Net, Starts, Ticks, HasRow, Causal}
use Rattle.bs_times.specs.Times.{IsConsistent, IsListed, AreWaves, SameTicks, greatest_to, budget, arrival, ready}
use Rattle.bs_times.proofs.Ready.{after_ready, mail_ready, ready_most}
use Rattle.bs_times.proofs.Members.{cases_le}
use Rattle.bs_times.proofs.Unique.{Agree, early_starts, at_ready}

-- the waves, and the consistent table
record Run (net : Net) (ticks : ℕ → Ticks) (z : Starts) : Type 0 where
  causal : Causal net
  waves : AreWaves net ticks
  right : IsConsistent net z

-- ready ticks in wave j, and the right ones
abbrev r : (net : Net) (ticks : ℕ → Ticks) (z : Starts) → Run net ticks z → ℕ → Starts
r net ticks z run j = ready net (ticks j) (run.waves j).table

abbrev q : (net : Net) → Starts → Starts
q net z = ready net (arrival net z) z

-- from wave k on all is right before t
abbrev Right : (net : Net) (ticks : ℕ → Ticks) (z : Starts) → Run net ticks z → ℕ → ℕ → Type 0
Right net ticks z run t k = (j : ℕ) → k ≤ j → Agree net t (r net ticks z run j) (q net z)

same_start : (net : Net) (ticks : ℕ → Ticks) (z : Starts) (run : Run net ticks z) (t k : ℕ) → Right net ticks z run t k → (j : ℕ) → k ≤ j → (x : ℕ) → HasRow net x → q net z x < t → (run.waves j).table x ≡ z x
same_start net ticks z run t k h j le x has early = early_starts net t (ticks j) (arrival net z) (run.waves j).table z run.causal (run.waves j).lines run.right (h j le) x has (inr early)

-- no row is ready between t and u
abbrev Gap : Net → Starts → ℕ → ℕ → Type 0
Gap net z t u = (i : ℕ) → HasRow net i → t ≤ q net z i → u ≤ q net z i

before_gap : (net : Net) (z : Starts) (t u i : ℕ) → Gap net z t u → HasRow net i → q net z i < u → q net z i < t
before_gap net z t u i g has below = go (cases_le t (q net z i))
  where
    go : (t ≤ q net z i) ⊎ (q net z i < t) → q net z i < t
    go (inl le) = omega (arith, g i has le, below)
    go (inr lt) = lt

-- a cause that gives less than it should in wave j would be early itself
no_early_cause : (net : Net) (ticks : ℕ → Ticks) (z : Starts) (run : Run net ticks z) (t u k : ℕ) → Right net ticks z run t k → Gap net z t u → (j x w n : ℕ) → k ≤ j → HasRow net x → 1 ≤ w → (run.waves j).table x + w ≤ n → n ≤ u → (r net ticks z run j x ≤ u → q net z x ≤ r net ticks z run j x) → z x + w ≤ n
no_early_cause net ticks z run t u k h g j x w n le has long given below ih =
    let begun : r net ticks z run j x ≤ (run.waves j).table x = at_ready net (ticks j) (run.waves j).table (run.waves j).lines x has in
    let right : q net z x ≤ r net ticks z run j x = ih (omega (arith, begun, given, below, long)) in
    let early : q net z x < t = before_gap net z t u x g has (omega (arith, right, begun, given, below, long)) in
    omega (arith, same_start net ticks z run t k h j le x has early, given)

no_early : (net : Net) (ticks : ℕ → Ticks) (z : Starts) (run : Run net ticks z) (t u k : ℕ) → Right net ticks z run t k → Gap net z t u → (d j : ℕ) → k + d ≤ j → (i : ℕ) → HasRow net i → net.depth i ≤ d → r net ticks z run j i ≤ u → q net z i ≤ r net ticks z run j i
no_early net ticks z run t u k h g zero j le i has deep below = ready_most net (arrival net z) z i (r net ticks z run j i)
    (λ x m. omega (arith, (run.causal.after i x has m).2, deep))
    (λ x m. omega (arith, (run.causal.mail i x has m).1, deep))
no_early net ticks z run t u k h g (suc d) zero le i has deep below = omega (arith, le)
no_early net ticks z run t u k h g (suc d) (suc j) le i has deep below = ready_most net (arrival net z) z i (r net ticks z run (suc j) i)
    (λ x m.
    let known = run.causal.after i x has m in
    no_early_cause net ticks z run t u k h g (suc j) x (net.duration x) (r net ticks z run (suc j) i) (omega (arith, le)) known.0 (run.causal.duration x known.0)
    (after_ready net (ticks (suc j)) (run.waves (suc j)).table i x m) below
    (λ lower. no_early net ticks z run t u k h g d (suc j) (omega (arith, le)) x known.0 (omega (arith, known.2, deep)) lower))
    (λ m listed.
    let known = run.causal.mail i m has listed in
    let comes : ticks (suc j) m ≤ r net ticks z run (suc j) i = mail_ready net (ticks (suc j)) (run.waves (suc j)).table i m listed in
    let sent : ticks (suc j) m ≡ arrival net (run.waves j).table m = (run.waves j).arrives m (i, has, listed) in
    no_early_cause net ticks z run t u k h g j m.row (net.travel m) (r net ticks z run (suc j) i) (omega (arith, le)) known.0 (run.causal.travel i m has listed)
    (omega (arith, comes, sent)) below
    (λ lower. no_early net ticks z run t u k h g d j (omega (arith, le)) m.row known.0 (omega (arith, known.1, deep)) lower))

no_late : (net : Net) (ticks : ℕ → Ticks) (z : Starts) (run : Run net ticks z) (t u k : ℕ) → Right net ticks z run t k → Gap net z t u → (j : ℕ) → k < j → (i : ℕ) → HasRow net i → q net z i ≤ u → r net ticks z run j i ≤ q net z i
no_late net ticks z run t u k h g zero le i has below = omega (arith, le)
no_late net ticks z run t u k h g (suc j) le i has below = ready_most net (ticks (suc j)) (run.waves (suc j)).table i (q net z i)
    (λ x m.
    let known = run.causal.after i x has m in
    let given : z x + net.duration x ≤ q net z i = after_ready net (arrival net z) z i x m in
    let early : q net z x < t = before_gap net z t u x g known.0 (omega (arith, given, below, run.causal.duration x known.0, at_ready net (arrival net z) z run.right x known.0)) in
    omega (arith, same_start net ticks z run t k h (suc j) (omega (arith, le)) x known.0 early, given))
    (λ m listed.
    let known = run.causal.mail i m has listed in
    let given : z m.row + net.travel m ≤ q net z i = mail_ready net (arrival net z) z i m listed in
    let early : q net z m.row < t = before_gap net z t u m.row g known.0 (omega (arith, given, below, run.causal.travel i m has listed, at_ready net (arrival net z) z run.right m.row known.0)) in
    let sent : ticks (suc j) m ≡ arrival net (run.waves j).table m = (run.waves j).arrives m (i, has, listed) in
    omega (arith, same_start net ticks z run t k h j (omega (arith, le)) m.row known.0 early, given, sent))

step : (net : Net) (ticks : ℕ → Ticks) (z : Starts) (run : Run net ticks z) (t u k d : ℕ) → ((i : ℕ) → HasRow net i → net.depth i ≤ d) → Right net ticks z run t k → Gap net z t u → Right net ticks z run (suc u) (suc (k + d))
step net ticks z run t u k d deep h g j le i has early = go early
  where
    low : r net ticks z run j i ≤ u → q net z i ≤ r net ticks z run j i
    low below = no_early net ticks z run t u k h g d j (omega (arith, le)) i has (deep i has) below

    high : q net z i ≤ u → r net ticks z run j i ≤ q net z i
    high below = no_late net ticks z run t u k h g j (omega (arith, le)) i has below

    go : (r net ticks z run j i < suc u) ⊎ (q net z i < suc u) → r net ticks z run j i ≡ q net z i
    go (inl lt) = let one = low (omega arith) in let two = high (omega (arith, one, lt)) in omega (arith, one, two)
    go (inr lt) = let two = high (omega arith) in let one = low (omega (arith, two, lt)) in omega (arith, one, two)

-- ---- the rows that are ready from t on

abbrev one : {A B : Type 0} → A ⊎ B → ℕ
one (inl x) = 1
one (inr x) = 0

abbrev late : Starts → ℕ → ℕ → ℕ
late f t zero = 0
late f t (suc n) = late f t n + one (cases_le t (f (suc n)))

one_le : {A B : Type 0} (x : A ⊎ B) → one x ≤ 1
one_le (inl x) = omega arith
one_le (inr x) = omega arith

one_grows : (t u n : ℕ) → t ≤ u → (x : (t ≤ n) ⊎ (n < t)) (y : (u ≤ n) ⊎ (n < u)) → one y ≤ one x
one_grows t u n h (inl x) y = one_le y
one_grows t u n h (inr x) (inl y) = omega arith
one_grows t u n h (inr x) (inr y) = omega arith

late_most : (f : Starts) (t n : ℕ) → late f t n ≤ n
late_most f t zero = omega arith
late_most f t (suc n) = omega (arith, late_most f t n, one_le (cases_le t (f (suc n))))

late_grows : (f : Starts) (t u n : ℕ) → t ≤ u → late f u n ≤ late f t n
late_grows f t u zero h = omega arith
late_grows f t u (suc n) h = omega (arith, late_grows f t u n h, one_grows t u (f (suc n)) h (cases_le t (f (suc n))) (cases_le u (f (suc n))))

one_is : (t n : ℕ) → t ≤ n → (x : (t ≤ n) ⊎ (n < t)) → one x ≡ 1
one_is t n h (inl x) = refl
one_is t n h (inr x) = omega arith

one_not : (t n : ℕ) → n < t → (x : (t ≤ n) ⊎ (n < t)) → one x ≡ 0
one_not t n h (inl x) = omega arith
one_not t n h (inr x) = refl

late_less : (f : Starts) (t n i : ℕ) → 1 ≤ i → i ≤ n → t ≤ f i → late f (suc (f i)) n < late f t n
late_less f t zero i h k g = omega arith
late_less f t (suc n) i h k g = go (late_less f t n i h) (cases_le i n)
  where
    go : (i ≤ n → t ≤ f i → late f (suc (f i)) n < late f t n) → (i ≤ n) ⊎ (n < i) → late f (suc (f i)) (suc n) < late f t (suc n)
    go ih (inl le) = omega (arith, ih le g, one_grows t (suc (f i)) (f (suc n)) (omega (arith, g)) (cases_le t (f (suc n))) (cases_le (suc (f i)) (f (suc n))))
    go ih (inr lt) =
        let e : i ≡ suc n = omega (arith, k, lt) in
        let v : f i ≡ f (suc n) = ap f e in
        omega (arith, late_grows f t (suc (f i)) n (omega (arith, g)), one_is t (f (suc n)) (omega (arith, g, v)) (cases_le t (f (suc n))), one_not (suc (f i)) (f (suc n)) (omega (arith, v)) (cases_le (suc (f i)) (f (suc n))))

abbrev Least : Starts → ℕ → ℕ → Type 0
Least f t n = ((i : ℕ) → 1 ≤ i → i ≤ n → f i < t) ⊎ ((x : ℕ) × (1 ≤ x) × (x ≤ n) × (t ≤ f x) × ((i : ℕ) → 1 ≤ i → i ≤ n → t ≤ f i → f x ≤ f i))

least : (f : Starts) (t n : ℕ) → Least f t n
least f t zero = inl (λ i h k. omega (arith, h, k))
least f t (suc n) = go (least f t n) (cases_le t (f (suc n)))
  where
    last : (P : ℕ → Type 0) → ((i : ℕ) → 1 ≤ i → i ≤ n → P i) → P (suc n) → (i : ℕ) → 1 ≤ i → i ≤ suc n → P i
    last P h e i l k = there (cases_le i n)
      where
        there : (i ≤ n) ⊎ (n < i) → P i
        there (inl le) = h i l le
        there (inr lt) = let same : suc n ≡ i = omega (arith, lt, k) in subst P same e

    closer : (d : (x : ℕ) × (1 ≤ x) × (x ≤ n) × (t ≤ f x) × ((i : ℕ) → 1 ≤ i → i ≤ n → t ≤ f i → f x ≤ f i)) → t ≤ f (suc n) → (f d.0 ≤ f (suc n)) ⊎ (f (suc n) < f d.0) → Least f t (suc n)
    closer d le (inl a) = inr (d.0, d.1, omega (arith, d.2), d.3, last (λ i. t ≤ f i → f d.0 ≤ f i) d.4 (λ g. a))
    closer d le (inr a) = inr (suc n, omega arith, omega arith, le, last (λ i. t ≤ f i → f (suc n) ≤ f i) (λ i l k g. omega (arith, d.4 i l k g, a)) (λ g. omega arith))

    go : Least f t n → (t ≤ f (suc n)) ⊎ (f (suc n) < t) → Least f t (suc n)
    go (inl all) (inr lt) = inl (last (λ i. f i < t) all lt)
    go (inl all) (inl le) = inr (suc n, omega arith, omega arith, le, last (λ i. t ≤ f i → f (suc n) ≤ f i) (λ i l k g. omega (arith, all i l k, g)) (λ g. omega arith))
    go (inr d) (inr lt) = inr (d.0, d.1, omega (arith, d.2), d.3, last (λ i. t ≤ f i → f d.0 ≤ f i) d.4 (λ g. omega (arith, g, lt)))
    go (inr d) (inl le) = closer d le (cases_le (f d.0) (f (suc n)))

settled : (net : Net) (ticks : ℕ → Ticks) (z : Starts) (run : Run net ticks z) (d : ℕ) → ((i : ℕ) → HasRow net i → net.depth i ≤ d) → (n t k : ℕ) → late (q net z) t net.rows ≤ n → Right net ticks z run t k → (j : ℕ) → k + n * suc d ≤ j → (i : ℕ) → HasRow net i → r net ticks z run j i ≡ q net z i
settled net ticks z run d deep zero t k few h j le i has = go (cases_le t (q net z i))
  where
    go : (t ≤ q net z i) ⊎ (q net z i < t) → r net ticks z run j i ≡ q net z i
    go (inl g) = omega (arith, late_less (q net z) t net.rows i has.0 has.1 g, few)
    go (inr lt) = h j (omega (arith, le)) i has (inr lt)
settled net ticks z run d deep (suc n) t k few h j le i has = go (λ u. settled net ticks z run d deep n (suc u) (suc (k + d))) (least (q net z) t net.rows)
  where
    go : ((u : ℕ) → late (q net z) (suc u) net.rows ≤ n → Right net ticks z run (suc u) (suc (k + d)) → (j : ℕ) → suc (k + d) + n * suc d ≤ j → (i : ℕ) → HasRow net i → r net ticks z run j i ≡ q net z i) → Least (q net z) t net.rows → r net ticks z run j i ≡ q net z i
    go ih (inl all) = h j (omega (arith, le)) i has (inr (all i has.0 has.1))
    go ih (inr x) = ih (q net z x.0) (omega (arith, late_less (q net z) t net.rows x.0 x.1 x.2 x.3, few)) (step net ticks z run t (q net z x.0) k d deep h (λ y row g. x.4 y row.0 row.1 g)) j (omega (arith, le)) i has

greatest_to_is : (f : ℕ → ℕ) (n i : ℕ) → 1 ≤ i → i ≤ n → f i ≤ greatest_to f n
greatest_to_is f zero i h k = omega (arith, h, k)
greatest_to_is f (suc n) i h k = go (greatest_to_is f n i h) (cases_le i n)
  where
    go : (i ≤ n → f i ≤ greatest_to f n) → (i ≤ n) ⊎ (n < i) → f i ≤ greatest_to f (suc n)
    go ih (inl le) = omega (arith, ih le)
    go ih (inr lt) = let e : i ≡ suc n = omega (arith, lt, k) in rw e (omega arith)

-- after this many waves the lines are those of the consistent table
pub right_starts : (net : Net) → Causal net → (ticks : ℕ → Ticks) → AreWaves net ticks → (z : Starts) → IsConsistent net z → (j : ℕ) → net.rows * (greatest_to net.depth net.rows + 1) ≤ j → (waves : AreWaves net ticks) (i : ℕ) → HasRow net i → (waves j).table i ≡ z i
right_starts net c ticks waves' z b j le waves i has =
    early_starts net (suc (q net z i)) (ticks j) (arrival net z) (waves j).table z c (waves j).lines b
    (λ x row h. settled net ticks z run (greatest_to net.depth net.rows) (λ y y_row. greatest_to_is net.depth net.rows y y_row.0 y_row.1) net.rows 0 0 (late_most (q net z) 0 net.rows) (λ j' l y y_row g. absurd (none _ _ g)) j (omega (arith, le)) x row) i has (inr (omega arith))
  where
    run : Run net ticks z
    run = record { causal = c; waves = waves; right = b }

    none : (m n : ℕ) → (m < 0) ⊎ (n < 0) → ⊥
    none m n (inl h) = omega arith
    none m n (inr h) = omega arith

pub waves_settle : (net : Net) → Causal net → (z : Starts) → IsConsistent net z → (ticks : ℕ → Ticks) → AreWaves net ticks → (k : ℕ) → budget net ≤ suc k → SameTicks net (ticks (suc k)) (ticks k) × SameTicks net (ticks k) (arrival net z)
waves_settle net c z b ticks waves zero le = omega (arith, le)
waves_settle net c z b ticks waves (suc k) le = (λ m listed. later m listed ∙ sym (now m listed), now)
  where
    now : (m : MailRef) → IsListed net m → ticks (suc k) m ≡ arrival net z m
    now m listed = (waves k).arrives m listed ∙ ap (λ x. x + net.travel m) (right_starts net c ticks waves z b k (omega (arith, le)) waves m.row (c.mail listed.0 m listed.1 listed.2).0)

    later : (m : MailRef) → IsListed net m → ticks (suc (suc k)) m ≡ arrival net z m
    later m listed = (waves (suc k)).arrives m listed ∙ ap (λ x. x + net.travel m) (right_starts net c ticks waves z b (suc k) (omega (arith, le)) waves m.row (c.mail listed.0 m listed.1 listed.2).0)
