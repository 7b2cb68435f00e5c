-- The cells of a part beside those of the others.
use Rattle.std.proofs.Common.{◌≡◌, ◌≤◌, ◌<◌, ℕ, suc, zero, ◌+◌, arith, [], ◌∷◌, length, get_or, set, Bool, true, false, ◌||◌, if◌then◌else◌, refl, sym, ap, ap₂, subst}
use Rattle.std.specs.Prelude.{ℤ, pos}
use Rattle.bs_semantics.specs.Value.{Cells}
use Rattle.bs_semantics.specs.Run.{mix}

-- no cell is written
pub mix_none : (i : ℕ) (xs ys : Cells) → mix (λ j. false) i xs ys ≡ ys
mix_none i [] ys = refl
mix_none i (x ∷ xs) [] = refl
mix_none i (x ∷ xs) (y ∷ ys) = ap (λ zs. y ∷ zs) (mix_none (i + 1) xs ys)

either : (a b : Bool) (x y : ℤ) → (if a || b then x else y) ≡ (if b then x else (if a then x else y))
either true true x y = refl
either true false x y = refl
either false true x y = refl
either false false x y = refl

-- what one of two writes is taken for the first, and then for the second
pub mix_or : (a b : ℕ → Bool) (i : ℕ) (xs ys : Cells) → mix (λ j. a j || b j) i xs ys ≡ mix b i xs (mix a i xs ys)
mix_or a b i [] ys = refl
mix_or a b i (x ∷ xs) [] = refl
mix_or a b i (x ∷ xs) (y ∷ ys) = ap₂ (λ z zs. z ∷ zs) (either (a i) (b i) x y) (mix_or a b (i + 1) xs ys)

pub mix_length : (w : ℕ → Bool) (i : ℕ) (xs ys : Cells) → length (mix w i xs ys) ≡ length ys
mix_length w i [] ys = refl
mix_length w i (x ∷ xs) [] = refl
mix_length w i (x ∷ xs) (y ∷ ys) = ap suc (mix_length w (i + 1) xs ys)

-- two that write the same cells from a place on
pub mix_same : (a b : ℕ → Bool) (i : ℕ) (xs ys : Cells) → ((j : ℕ) → i ≤ j → a j ≡ b j) → mix a i xs ys ≡ mix b i xs ys
mix_same a b i [] ys h = refl
mix_same a b i (x ∷ xs) [] h = refl
mix_same a b i (x ∷ xs) (y ∷ ys) h =
    ap₂ (λ z zs. z ∷ zs) (ap (λ c. if c then x else y) (h i (omega arith))) (mix_same a b (i + 1) xs ys (λ j l. h j (omega arith)))

-- one cell more is taken
pub mix_more : (a b : ℕ → Bool) (i k : ℕ) (xs ys : Cells) → k < length xs → k < length ys → b (i + k) ≡ true → ((j : ℕ) → (j ≡ i + k → ⊥) → a j ≡ b j) →
    set (mix a i xs ys) k (get_or xs k (pos 0)) ≡ mix b i xs ys
mix_more a b i k [] ys l m e h = absurd (omega arith)
mix_more a b i k (x ∷ xs) [] l m e h = absurd (omega arith)
mix_more a b i zero (x ∷ xs) (y ∷ ys) l m e h =
    let here : b i ≡ true = subst (λ n. b n ≡ true) (omega arith) e in
    ap₂ (λ z zs. z ∷ zs) (ap (λ c. if c then x else y) (sym here)) (mix_same a b (i + 1) xs ys (λ j l. h j (λ q. omega arith)))
mix_more a b i (suc k) (x ∷ xs) (y ∷ ys) l m e h =
    let there : b (i + 1 + k) ≡ true = subst (λ n. b n ≡ true) (omega arith) e in
    ap₂ (λ z zs. z ∷ zs) (ap (λ c. if c then x else y) (h i (λ q. omega arith))) (mix_more a b (i + 1) k xs ys (omega arith) (omega arith) there (λ j n. h j (λ q. n (omega arith))))
