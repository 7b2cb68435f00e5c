-- A ready tick is the greatest of what the causes give.
use Rattle.std.proofs.Common.{◌≡◌, ℕ, ◌+◌, ◌≤◌, max, List, [], ◌∷◌, ◌⊎◌, inl, inr, map, refl, ◌∙◌, arith}
use Rattle.bs_log.specs.declared.log.MailRef.{MailRef}
use Rattle.bs_log.specs.Lists.{Mem}
use Rattle.bs_times.specs.Net.{Net, Starts, Ticks}
use Rattle.bs_times.specs.Times.{greatest, end_of, ready}

pub among : {A : Type 0} (f : A → ℕ) (x : A) (xs : List A) → Mem x xs → f x ≤ greatest (map f xs)
among f x [] m = absurd m
among f x (y ∷ xs) (inl e) = rw e (omega arith)
among f x (y ∷ xs) (inr m) = omega (arith, among f x xs m)

pub at_most : {A : Type 0} (f : A → ℕ) (xs : List A) (b : ℕ) → ((x : A) → Mem x xs → f x ≤ b) → greatest (map f xs) ≤ b
at_most f [] b h = omega arith
at_most f (x ∷ xs) b h = omega (arith, h x (inl refl), at_most f xs b (λ y m. h y (inr m)))

abbrev From : {A : Type 0} → (A → ℕ) → List A → ℕ → Type 0
From {A} f xs n = (n ≡ 0) ⊎ ((x : A) × Mem x xs × (n ≡ f x))

attained : {A : Type 0} (f : A → ℕ) (xs : List A) → From f xs (greatest (map f xs))
attained f [] = inl refl
attained f (x ∷ xs) = go (attained f xs)
  where
    pick : (a b c : ℕ) → c ≡ max a b → (c ≡ a) ⊎ (c ≡ b)
    pick a b c e = grind arith

    either : From f xs (greatest (map f xs)) → (greatest (map f (x ∷ xs)) ≡ f x) ⊎ (greatest (map f (x ∷ xs)) ≡ greatest (map f xs)) → From f (x ∷ xs) (greatest (map f (x ∷ xs)))
    either h (inl e) = inr (x, inl refl, e)
    either (inl z) (inr e) = inl (e ∙ z)
    either (inr d) (inr e) = inr (d.0, inr d.1, e ∙ d.2)

    go : From f xs (greatest (map f xs)) → From f (x ∷ xs) (greatest (map f (x ∷ xs)))
    go h = either h (pick (f x) (greatest (map f xs)) _ refl)

pub after_ready : (net : Net) (held : Ticks) (s : Starts) (i x : ℕ) → Mem x (net.after i) → s x + net.duration x ≤ ready net held s i
after_ready net held s i x m = omega (arith, among (end_of net s) x (net.after i) m)

pub mail_ready : (net : Net) (held : Ticks) (s : Starts) (i : ℕ) (m : MailRef) → Mem m (net.mail i) → held m ≤ ready net held s i
mail_ready net held s i m k = omega (arith, among held m (net.mail i) k)

pub ready_most : (net : Net) (held : Ticks) (s : Starts) (i b : ℕ) → ((x : ℕ) → Mem x (net.after i) → s x + net.duration x ≤ b) → ((m : MailRef) → Mem m (net.mail i) → held m ≤ b) → ready net held s i ≤ b
ready_most net held s i b h k = omega (arith, at_most (end_of net s) (net.after i) b h, at_most held (net.mail i) b k)

pub ready_from : (net : Net) (held : Ticks) (s : Starts) (i : ℕ) → (ready net held s i ≡ 0) ⊎ (((x : ℕ) × Mem x (net.after i) × (ready net held s i ≡ s x + net.duration x)) ⊎ ((m : MailRef) × Mem m (net.mail i) × (ready net held s i ≡ held m)))
ready_from net held s i = go (pick (greatest (map (end_of net s) (net.after i))) (greatest (map held (net.mail i))) (ready net held s i) refl) (attained (end_of net s) (net.after i)) (attained held (net.mail i))
  where
    pick : (a b c : ℕ) → c ≡ max a b → (c ≡ a) ⊎ (c ≡ b)
    pick a b c e = grind arith

    go : (ready net held s i ≡ greatest (map (end_of net s) (net.after i))) ⊎ (ready net held s i ≡ greatest (map held (net.mail i))) → From (end_of net s) (net.after i) (greatest (map (end_of net s) (net.after i))) → From held (net.mail i) (greatest (map held (net.mail i))) → (ready net held s i ≡ 0) ⊎ (((x : ℕ) × Mem x (net.after i) × (ready net held s i ≡ s x + net.duration x)) ⊎ ((m : MailRef) × Mem m (net.mail i) × (ready net held s i ≡ held m)))
    go (inl e) (inl z) k = inl (e ∙ z)
    go (inl e) (inr d) k = inr (inl (d.0, d.1, e ∙ d.2))
    go (inr e) h (inl z) = inl (e ∙ z)
    go (inr e) h (inr d) = inr (inr (d.0, d.1, e ∙ d.2))
