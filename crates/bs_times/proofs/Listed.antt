-- Which processors have a row, which messages are listed, and which lines are dirty.
use Rattle.std.proofs.Common.{◌≡◌, ◌≤◌, ◌<◌, ◌⊎◌, inl, inr, ℕ, zero, suc, true, false, List, [], ◌∷◌, ◌++◌, refl, sym, subst, ◌∙◌, arith}
use Rattle.std.proofs.lemmas.Bool.{cases_eq, cases_Bool, true≢false}
use Rattle.bs_log.specs.declared.log.MailRef.{MailRef}
use Rattle.bs_log.specs.Lists.{Mem}
use Rattle.bs_times.specs.Net.{Net, Starts, Ticks, Causal}
use Rattle.bs_times.specs.Times.{HasLine, IsLine, IsListed}
use Rattle.bs_times.specs.Racing.{World, IsDirty}
use Rattle.bs_times.proofs.Members.{cases_le, mem_left, mem_right, mem_cases}

abbrev pub Decided : Type 0 → Type 0
Decided A = A ⊎ (A → ⊥)

-- ---- rows

any_to : (net : Net) (p n : ℕ) → Decided ((i : ℕ) × (1 ≤ i) × (i ≤ n) × (net.home i ≡ p))
any_to net p zero = inr (λ d. omega (arith, d.1, d.2))
any_to net p (suc n) = go (any_to net p n) (cases_eq (net.home (suc n)) p)
  where
    low : (d : (i : ℕ) × (1 ≤ i) × (i ≤ suc n) × (net.home i ≡ p)) → (net.home (suc n) ≡ p → ⊥) → (d.0 ≤ n) ⊎ (n < d.0) → (i : ℕ) × (1 ≤ i) × (i ≤ n) × (net.home i ≡ p)
    low d f (inl le) = (d.0, d.1, le, d.3)
    low d f (inr lt) = let e : d.0 ≡ suc n = omega (arith, lt, d.2) in absurd (f (subst (λ k. net.home k ≡ p) e d.3))

    go : Decided ((i : ℕ) × (1 ≤ i) × (i ≤ n) × (net.home i ≡ p)) → Decided (net.home (suc n) ≡ p) → Decided ((i : ℕ) × (1 ≤ i) × (i ≤ suc n) × (net.home i ≡ p))
    go (inl d) e = inl (d.0, d.1, omega (arith, d.2), d.3)
    go (inr f) (inl e) = inl (suc n, omega arith, omega arith, e)
    go (inr f) (inr g) = inr (λ d. f (low d g (cases_le d.0 n)))

pub row_or_not : (net : Net) (p : ℕ) → Decided (HasLine net p)
row_or_not net p = go (any_to net p net.rows)
  where
    go : Decided ((i : ℕ) × (1 ≤ i) × (i ≤ net.rows) × (net.home i ≡ p)) → Decided (HasLine net p)
    go (inl d) = inl (d.0, ((d.1, d.2), d.3))
    go (inr f) = inr (λ h. f (h.0, h.1.0.0, h.1.0.1, h.1.1))

pub empty_line : (net : Net) (p : ℕ) (held : Ticks) (s : Starts) → (HasLine net p → ⊥) → IsLine net p held s
empty_line net p held s none = record { order = []; all = λ i. (λ on. none (i, on), λ m. absurd m); runs = tt }

-- the processor of a listed message's sender has a row, and so has the one that it goes to.
pub sender_line : (net : Net) → Causal net → (p : ℕ) (m : MailRef) → IsListed net m → net.home m.row ≡ p → HasLine net p
sender_line net c p m listed e = (m.row, ((c.mail listed.0 m listed.1 listed.2).0, e))

pub dirty_line : (net : Net) → Causal net → (w : World) (p : ℕ) → IsDirty net w p → HasLine net p
dirty_line net c w p (inl d) = d.0
dirty_line net c w p (inr d) = (d.1.0, (d.1.1, sym (c.mail d.1.0 d.0 d.1.1 d.1.2).2 ∙ d.2))

-- ---- listed messages

pub listed_to : Net → ℕ → List MailRef
listed_to net zero = []
listed_to net (suc n) = net.mail (suc n) ++ listed_to net n

pub listed_in : (net : Net) (n i : ℕ) (m : MailRef) → 1 ≤ i → i ≤ n → Mem m (net.mail i) → Mem m (listed_to net n)
unfolding listed_to
listed_in net zero i m some most k = absurd (omega (arith, some, most))
listed_in net (suc n) i m some most k = go (λ le. listed_in net n i m some le k) (cases_le i n)
  where
    go : (i ≤ n → Mem m (listed_to net n)) → (i ≤ n) ⊎ (n < i) → Mem m (net.mail (suc n) ++ listed_to net n)
    go ih (inl le) = mem_right m (net.mail (suc n)) (listed_to net n) (ih le)
    go ih (inr lt) = let e : i ≡ suc n = omega (arith, lt, most) in mem_left m (net.mail (suc n)) (listed_to net n) (subst (λ j. Mem m (net.mail j)) e k)

pub in_listed : (net : Net) (n : ℕ) (m : MailRef) → n ≤ net.rows → Mem m (listed_to net n) → IsListed net m
unfolding listed_to
in_listed net zero m le k = absurd k
in_listed net (suc n) m le k = go (in_listed net n m (omega (arith, le))) (mem_cases m (net.mail (suc n)) (listed_to net n) k)
  where
    go : (Mem m (listed_to net n) → IsListed net m) → Mem m (net.mail (suc n)) ⊎ Mem m (listed_to net n) → IsListed net m
    go ih (inl here) = (suc n, (omega arith, le), here)
    go ih (inr there) = ih there

-- ---- dirty lines

abbrev Differs : Net → World → ℕ → MailRef → Type 0
Differs net w p m = (net.goes_to m ≡ p) × (w.held m ≡ w.used m → ⊥)

differs_or_not : (net : Net) (w : World) (p : ℕ) (m : MailRef) → Decided (Differs net w p m)
differs_or_not net w p m = go (cases_eq (net.goes_to m) p) (cases_eq (w.held m) (w.used m))
  where
    go : Decided (net.goes_to m ≡ p) → Decided (w.held m ≡ w.used m) → Decided (Differs net w p m)
    go (inr f) e = inr (λ d. f d.0)
    go (inl e) (inl same) = inr (λ d. d.1 same)
    go (inl e) (inr n) = inl (e, n)

any_in : (net : Net) (w : World) (p : ℕ) (ms : List MailRef) → Decided ((m : MailRef) × Mem m ms × Differs net w p m)
any_in net w p [] = inr (λ d. d.1)
any_in net w p (m ∷ ms) = go (differs_or_not net w p m) (any_in net w p ms)
  where
    behind : (d : (k : MailRef) × Mem k (m ∷ ms) × Differs net w p k) → (Differs net w p m → ⊥) → (((k : MailRef) × Mem k ms × Differs net w p k) → ⊥) → ⊥
    behind d f g = at d.1
      where
        at : Mem d.0 (m ∷ ms) → ⊥
        at (inl e) = f (subst (Differs net w p) e d.2)
        at (inr k) = g (d.0, k, d.2)

    go : Decided (Differs net w p m) → Decided ((k : MailRef) × Mem k ms × Differs net w p k) → Decided ((k : MailRef) × Mem k (m ∷ ms) × Differs net w p k)
    go (inl d) e = inl (m, inl refl, d)
    go (inr f) (inl d) = inl (d.0, inr d.1, d.2)
    go (inr f) (inr g) = inr (λ d. behind d f g)

pub dirty_or_not : (net : Net) (w : World) (p : ℕ) → Decided (IsDirty net w p)
dirty_or_not net w p = go (any_in net w p (listed_to net net.rows)) (row_or_not net p) (cases_Bool (w.begun p))
  where
    only : (((m : MailRef) × Mem m (listed_to net net.rows) × Differs net w p m) → ⊥) → ((HasLine net p × (w.begun p ≡ false)) → ⊥) → IsDirty net w p → ⊥
    only f g (inl d) = g d
    only f g (inr d) = f (d.0, listed_in net net.rows d.1.0 d.0 d.1.1.0 d.1.1.1 d.1.2, (d.2, d.3))

    go : Decided ((m : MailRef) × Mem m (listed_to net net.rows) × Differs net w p m) → Decided (HasLine net p) → (w.begun p ≡ true) ⊎ (w.begun p ≡ false) → Decided (IsDirty net w p)
    go (inl d) h b = inl (inr (d.0, in_listed net net.rows d.0 (omega arith) d.1, d.2.0, d.2.1))
    go (inr f) (inl h) (inr e) = inl (inl (h, e))
    go (inr f) (inl h) (inl e) = inr (only f (λ d. true≢false (sym e ∙ d.1)))
    go (inr f) (inr g) b = inr (only f (λ d. g d.0))
