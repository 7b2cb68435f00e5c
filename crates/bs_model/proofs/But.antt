-- What holds of all chares but the listed ones, as one is listed or made up for.
use Rattle.std.proofs.Common.{◌≡◌, ◌<◌, ◌⊎◌, inl, inr, ℕ, List, [], ◌∷◌, refl, sym, subst, ◌∙◌, arith, Ordering}
use Rattle.std.specs.declared.cmp.Ordering.TheVariants.{Less, Equal, Greater}
use Rattle.std.specs.Ordering.{nat_cmp, match_ordering}
use Rattle.std.specs.BTreeSet.{insert_key}
use Rattle.std.proofs.lemmas.Bool.{cases_eq, cases_order, lt-ltb, le-ltb, ne_eqb, cond-true, cond-false}
use Rattle.bs_log.specs.Lists.{Mem}
use Rattle.bs_model.specs.But.{HoldsBut}

-- ---- a number that is listed

number_equal : (a b : ℕ) → nat_cmp a b ≡ Equal → a ≡ b
number_equal a b h = by_case (cases_order a b)
  where
    by_case : (a ≡ b) ⊎ ((a < b) ⊎ (b < a)) → a ≡ b
    by_case (inl e) = e
    by_case (inr (inl l)) = let less : nat_cmp a b ≡ Less = cond-true _ _ _ (lt-ltb a b l) in absurd (cc)
    by_case (inr (inr l)) = let more : nat_cmp a b ≡ Greater = cond-false _ _ _ (le-ltb a b (omega (arith, l))) ∙ cond-false _ _ _ (ne_eqb a b (λ e. omega (arith, e, l))) in absurd (cc)

abbrev list_in : List ℕ → ℕ → List ℕ
list_in cs k = insert_key nat_cmp cs k

is_listed : (cs : List ℕ) (k : ℕ) → Mem k (list_in cs k)
is_listed [] k = inl refl
is_listed (x ∷ xs) k = go (nat_cmp k x) refl (is_listed xs k)
  where
    go : (o : Ordering) → nat_cmp k x ≡ o → Mem k (list_in xs k) → Mem k (match_ordering o (k ∷ x ∷ xs) (x ∷ xs) (x ∷ list_in xs k))
    go Less e ih = inl refl
    go Equal e ih = inl (number_equal k x e)
    go Greater e ih = inr ih

stays_listed : (cs : List ℕ) (k d : ℕ) → Mem d cs → Mem d (list_in cs k)
stays_listed [] k d m = absurd m
stays_listed (x ∷ xs) k d m = go (nat_cmp k x) m (stays_listed xs k d)
  where
    go : (o : Ordering) → Mem d (x ∷ xs) → (Mem d xs → Mem d (list_in xs k)) → Mem d (match_ordering o (k ∷ x ∷ xs) (x ∷ xs) (x ∷ list_in xs k))
    go Less m ih = inr m
    go Equal m ih = m
    go Greater (inl e) ih = inl e
    go Greater (inr m) ih = inr (ih m)

was_listed : (cs : List ℕ) (k d : ℕ) → Mem d (list_in cs k) → Mem d cs ⊎ (d ≡ k)
was_listed [] k d (inl e) = inr e
was_listed [] k d (inr m) = absurd m
was_listed (x ∷ xs) k d m = go (nat_cmp k x) m (was_listed xs k d)
  where
    further : Mem d xs ⊎ (d ≡ k) → Mem d (x ∷ xs) ⊎ (d ≡ k)
    further (inl n) = inl (inr n)
    further (inr e) = inr e

    go : (o : Ordering) → Mem d (match_ordering o (k ∷ x ∷ xs) (x ∷ xs) (x ∷ list_in xs k)) → (Mem d (list_in xs k) → Mem d xs ⊎ (d ≡ k)) → Mem d (x ∷ xs) ⊎ (d ≡ k)
    go Less (inl e) ih = inr e
    go Less (inr n) ih = inl n
    go Equal n ih = inl n
    go Greater (inl e) ih = inl (inl e)
    go Greater (inr n) ih = further (ih n)

-- ---- all but the listed ones

pub but_less : (cs : List ℕ) (n : ℕ) (P Q : ℕ → Type 0) → HoldsBut cs n P → ((c : ℕ) → c < n → P c → Q c) → HoldsBut cs n Q
but_less cs n P Q h f = record { within = h.within; each = λ c l. by_case c l (h.each c l) }
  where
    by_case : (c : ℕ) → c < n → P c ⊎ Mem c cs → Q c ⊎ Mem c cs
    by_case c l (inl p) = inl (f c l p)
    by_case c l (inr m) = inr m

-- one more is listed, of which nothing need be known
pub but_one : (cs : List ℕ) (n k : ℕ) (P Q : ℕ → Type 0) → k < n → HoldsBut cs n P → ((c : ℕ) → c < n → (k ≡ c → ⊥) → P c → Q c) → HoldsBut (list_in cs k) n Q
but_one cs n k P Q low h f = record { within = λ c m. inside c (was_listed cs k c m); each = λ c l. by_case c l (cases_eq k c) (h.each c l) }
  where
    inside : (c : ℕ) → Mem c cs ⊎ (c ≡ k) → c < n
    inside c (inl m) = h.within c m
    inside c (inr e) = omega (arith, e, low)

    by_case : (c : ℕ) → c < n → (k ≡ c) ⊎ (k ≡ c → ⊥) → P c ⊎ Mem c cs → Q c ⊎ Mem c (list_in cs k)
    by_case c l (inl e) o = inr (subst (λ c. Mem c (list_in cs k)) e (is_listed cs k))
    by_case c l (inr e) (inl p) = inl (f c l e p)
    by_case c l (inr e) (inr m) = inr (stays_listed cs k c m)

pub but_none : (n : ℕ) (P : ℕ → Type 0) → ((c : ℕ) → c < n → P c) → HoldsBut [] n P
but_none n P f = record { within = λ c m. absurd m; each = λ c l. inl (f c l) }

-- the first of the listed ones is made up for
pub but_rest : (k : ℕ) (cs : List ℕ) (n : ℕ) (P Q : ℕ → Type 0) → HoldsBut (k ∷ cs) n P → ((c : ℕ) → (k ≡ c → ⊥) → P c → Q c) → Q k → HoldsBut cs n Q
but_rest k cs n P Q h f q = record { within = λ c m. h.within c (inr m); each = λ c l. by_case c (cases_eq k c) (h.each c l) }
  where
    by_case : (c : ℕ) → (k ≡ c) ⊎ (k ≡ c → ⊥) → P c ⊎ Mem c (k ∷ cs) → Q c ⊎ Mem c cs
    by_case c (inl e) o = inl (subst Q e q)
    by_case c (inr e) (inl p) = inl (f c e p)
    by_case c (inr e) (inr (inl m)) = absurd (e (sym m))
    by_case c (inr e) (inr (inr m)) = inr m

pub but_all : (n : ℕ) (P : ℕ → Type 0) → HoldsBut [] n P → (c : ℕ) → c < n → P c
but_all n P h c l = by_case (h.each c l)
  where
    by_case : P c ⊎ ⊥ → P c
    by_case (inl p) = p
    by_case (inr m) = absurd m
