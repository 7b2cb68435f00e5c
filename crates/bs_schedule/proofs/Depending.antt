-- How a plan is made: the rows of which each row is a cause.
use Rattle.std.proofs.Common.{subst, ◌≡◌, ℕ, zero, suc, ◌+◌, ◌<◌, ◌≤◌, List, [], ◌∷◌, ◌++◌, ◌⊎◌, inl, inr, length, map, take, set, get_or, refl, sym, ap, ◌∙◌, arith}
use Rattle.std.proofs.lemmas.Bool.{cases_eq}
use Rattle.std.proofs.lemmas.List.{take_more, get_or-set_same, get_or-set_other}
use Rattle.bs_schedule.specs.declared.plan.Cause.{Cause}
use Rattle.bs_schedule.specs.declared.plan.Plan.{Plan}
use Rattle.bs_log.specs.Lists.{Mem}
use Rattle.bs_schedule.specs.Plan.{AreRows, CausesFit, IsPlan}
use Rattle.bs_schedule.specs.Dependants.{DependantsAre, Adds}
use Rattle.bs_times.proofs.Members.{mem_left, mem_right, mem_cases}
use Rattle.bs_schedule.proofs.Places.{place_mem}

-- ---- dependants

pub no_adds : (k : ℕ) (old : List (List ℕ)) → Adds k [] old old
no_adds k old i j = (λ m. inl m, none)
  where
    none : Mem j (get_or old i []) ⊎ ((j ≡ k) × Mem i []) → Mem j (get_or old i [])
    none (inl m) = m
    none (inr d) = absurd d.1

pub adds_push : (k x : ℕ) (xs : List ℕ) (old mid new : List (List ℕ)) → Adds k xs old mid → x < length mid → new ≡ set mid x (get_or mid x [] ++ k ∷ []) → Adds k (xs ++ x ∷ []) old new
adds_push k x xs old mid new h has e i j = rw e (to (cases_eq i x), from (cases_eq i x))
  where
    Now : Type 0
    Now = Mem j (get_or (set mid x (get_or mid x [] ++ k ∷ [])) i [])

    wider : Mem j (get_or old i []) ⊎ ((j ≡ k) × Mem i xs) → Mem j (get_or old i []) ⊎ ((j ≡ k) × Mem i (xs ++ x ∷ []))
    wider (inl m) = inl m
    wider (inr d) = inr (d.0, mem_left i xs (x ∷ []) d.1)

    last : i ≡ x → Mem j (get_or mid x []) ⊎ Mem j (k ∷ []) → Mem j (get_or old i []) ⊎ ((j ≡ k) × Mem i (xs ++ x ∷ []))
    last q (inl m) = wider ((h i j).0 (rw q m))
    last q (inr (inl g)) = inr (g, mem_right i xs (x ∷ []) (inl q))
    last q (inr (inr m)) = absurd m

    to : (i ≡ x) ⊎ (i ≡ x → ⊥) → Mem j (get_or (set mid x (get_or mid x [] ++ k ∷ [])) i []) → Mem j (get_or old i []) ⊎ ((j ≡ k) × Mem i (xs ++ x ∷ []))
    to (inl q) m = last q (mem_cases j (get_or mid x []) (k ∷ []) (subst (λ ys. Mem j ys) (ap (λ y. get_or (set mid x (get_or mid x [] ++ k ∷ [])) y []) q ∙ get_or-set_same mid x (get_or mid x [] ++ k ∷ []) [] has) m))
    to (inr n) m = wider ((h i j).0 (subst (λ ys. Mem j ys) (get_or-set_other mid x i (get_or mid x [] ++ k ∷ []) [] n) m))

    kept : (i ≡ x) ⊎ (i ≡ x → ⊥) → Mem j (get_or mid i []) → Mem j (get_or (set mid x (get_or mid x [] ++ k ∷ [])) i [])
    kept (inl q) m = subst (λ ys. Mem j ys) (sym (ap (λ y. get_or (set mid x (get_or mid x [] ++ k ∷ [])) y []) q ∙ get_or-set_same mid x (get_or mid x [] ++ k ∷ []) [] has)) (mem_left j (get_or mid x []) (k ∷ []) (subst (λ y. Mem j (get_or mid y [])) q m))
    kept (inr n) m = subst (λ ys. Mem j ys) (sym (get_or-set_other mid x i (get_or mid x [] ++ k ∷ []) [] n)) m

    new_one : j ≡ k → i ≡ x → Mem j (get_or (set mid x (get_or mid x [] ++ k ∷ [])) i [])
    new_one g q = subst (λ ys. Mem j ys) (sym (ap (λ y. get_or (set mid x (get_or mid x [] ++ k ∷ [])) y []) q ∙ get_or-set_same mid x (get_or mid x [] ++ k ∷ []) [] has)) (mem_right j (get_or mid x []) (k ∷ []) (inl g))

    by_place : (i ≡ x) ⊎ (i ≡ x → ⊥) → j ≡ k → Mem i xs ⊎ Mem i (x ∷ []) → Mem j (get_or (set mid x (get_or mid x [] ++ k ∷ [])) i [])
    by_place w g (inl m) = kept w ((h i j).1 (inr (g, m)))
    by_place w g (inr (inl q)) = new_one g q
    by_place w g (inr (inr m)) = absurd m

    from : (i ≡ x) ⊎ (i ≡ x → ⊥) → Mem j (get_or old i []) ⊎ ((j ≡ k) × Mem i (xs ++ x ∷ [])) → Mem j (get_or (set mid x (get_or mid x [] ++ k ∷ [])) i [])
    from w (inl m) = kept w ((h i j).1 (inl m))
    from w (inr d) = by_place w d.0 (mem_cases i xs (x ∷ []) d.1)

pub adds_one : (k x : ℕ) (old new : List (List ℕ)) → x < length old → new ≡ set old x (get_or old x [] ++ k ∷ []) → Adds k (x ∷ []) old new
adds_one k x old new has e = adds_push k x [] old old new (no_adds k old) has e

-- a row that stands there already needn't be added
pub adds_again : (k x : ℕ) (old : List (List ℕ)) → Mem k (get_or old x []) → Adds k (x ∷ []) old old
adds_again k x old has i j = (λ m. inl m, there)
  where
    there : Mem j (get_or old i []) ⊎ ((j ≡ k) × Mem i (x ∷ [])) → Mem j (get_or old i [])
    there (inl m) = m
    there (inr (g, inl q)) = rw (g, q) has
    there (inr (g, inr m)) = absurd m

then_adds : (k x : ℕ) (xs : List ℕ) (old mid new : List (List ℕ)) → Adds k xs old mid → Adds k (x ∷ []) mid new → Adds k (xs ++ x ∷ []) old new
then_adds k x xs old mid new a b i j = (λ m. to ((b i j).0 m), from)
  where
    wider : Mem j (get_or old i []) ⊎ ((j ≡ k) × Mem i xs) → Mem j (get_or old i []) ⊎ ((j ≡ k) × Mem i (xs ++ x ∷ []))
    wider (inl m) = inl m
    wider (inr d) = inr (d.0, mem_left i xs (x ∷ []) d.1)

    to : Mem j (get_or mid i []) ⊎ ((j ≡ k) × Mem i (x ∷ [])) → Mem j (get_or old i []) ⊎ ((j ≡ k) × Mem i (xs ++ x ∷ []))
    to (inl m) = wider ((a i j).0 m)
    to (inr d) = inr (d.0, mem_right i xs (x ∷ []) d.1)

    by_place : j ≡ k → Mem i xs ⊎ Mem i (x ∷ []) → Mem j (get_or new i [])
    by_place g (inl m) = (b i j).1 (inl ((a i j).1 (inr (g, m))))
    by_place g (inr m) = (b i j).1 (inr (g, m))

    from : Mem j (get_or old i []) ⊎ ((j ≡ k) × Mem i (xs ++ x ∷ [])) → Mem j (get_or new i [])
    from (inl m) = (b i j).1 (inl ((a i j).1 (inl m)))
    from (inr d) = by_place d.0 (mem_cases i xs (x ∷ []) d.1)

map_push : (cs : List Cause) (c : Cause) → map (λ c. c.row) (cs ++ c ∷ []) ≡ map (λ c. c.row) cs ++ c.row ∷ []
map_push [] c = refl
map_push (x ∷ xs) c = ap (λ ys. x.row ∷ ys) (map_push xs c)

pub adds_more : (k i : ℕ) (cs : List Cause) (d : Cause) (old mid new : List (List ℕ)) → i < length cs → Adds k (map (λ c. c.row) (take i cs)) old mid → Adds k ((get_or cs i d).row ∷ []) mid new → Adds k (map (λ c. c.row) (take (i + 1) cs)) old new
adds_more k i cs d old mid new h a b = rw (take_more cs i d h, map_push (take i cs) (get_or cs i d)) (then_adds k (get_or cs i d).row (map (λ c. c.row) (take i cs)) old mid new a b)

pub dependants_more : (causes : List (List Cause)) (k : ℕ) (old new : List (List ℕ)) → 1 ≤ k → DependantsAre causes k old → Adds k (map (λ c. c.row) (get_or causes k [])) old new → DependantsAre causes (k + 1) new
dependants_more causes k old new low h a i j = (λ m. to ((a i j).0 m), λ d. (a i j).1 (from d (cases_eq j k)))
  where
    to : Mem j (get_or old i []) ⊎ ((j ≡ k) × Mem i (map (λ c. c.row) (get_or causes k []))) → (1 ≤ j) × (j < k + 1) × Mem i (map (λ c. c.row) (get_or causes j []))
    to (inl m) = let d = (h i j).0 m in (d.0, omega (arith, d.1), d.2)
    to (inr d) = (omega (arith, low, d.0), omega (arith, d.0), subst (λ y. Mem i (map (λ c. c.row) (get_or causes y []))) (sym d.0) d.1)

    from : (1 ≤ j) × (j < k + 1) × Mem i (map (λ c. c.row) (get_or causes j [])) → (j ≡ k) ⊎ (j ≡ k → ⊥) → Mem j (get_or old i []) ⊎ ((j ≡ k) × Mem i (map (λ c. c.row) (get_or causes k [])))
    from d (inl e) = inr (e, subst (λ y. Mem i (map (λ c. c.row) (get_or causes y []))) e d.2)
    from d (inr n) = inl ((h i j).1 (d.0, omega (arith, d.1, n), d.2))

pub no_dependants : (causes : List (List Cause)) (lists : List (List ℕ)) → ((i : ℕ) → get_or lists i [] ≡ []) → DependantsAre causes 1 lists
no_dependants causes lists h i j = (λ m. absurd (subst (λ ys. Mem j ys) (h i) m), λ d. absurd (omega (arith, d.0, d.1)))

pub made : (plan : Plan) → AreRows plan.processors plan.homes plan.times plan.causes → length plan.dependants ≡ length plan.causes → DependantsAre plan.causes (length plan.causes) plan.dependants → IsPlan plan
made plan rows long are = record {
  rows = rows;
  as_many = long ∙ rows.as_many_causes;
  sound = λ i k m. let d = (are i k).0 m in (d.0, omega (arith, d.1, rows.as_many_causes), d.2);
  whole = λ i k low h m. (are i k).1 (low, omega (arith, h, rows.as_many_causes), m);
}

pub all_fit : (processors : ℕ) (homes times : List ℕ) (causes : List (List Cause)) → AreRows processors homes times causes → (k : ℕ) → k < length causes → CausesFit (get_or causes k []) (length causes)
all_fit processors homes times causes rows k h i d l = omega (arith, (rows.cause k (get_or (get_or causes k []) i d) (omega (arith, h, rows.as_many_causes)) (place_mem (get_or causes k []) i d l)).1, rows.as_many_causes)

nothing_more : (xs : List (List ℕ)) → ((i : ℕ) → get_or xs i [] ≡ []) → (i : ℕ) → get_or (xs ++ [] ∷ []) i [] ≡ []
nothing_more [] h zero = refl
nothing_more [] h (suc i) = refl
nothing_more (x ∷ xs) h zero = h 0
nothing_more (x ∷ xs) h (suc i) = nothing_more xs (λ k. h (suc k)) i

pub push_nothing : (old new : List (List ℕ)) → new ≡ old ++ [] ∷ [] → ((i : ℕ) → get_or old i [] ≡ []) → (i : ℕ) → get_or new i [] ≡ []
push_nothing old new e h i = ap (λ y. get_or y i []) e ∙ nothing_more old h i
