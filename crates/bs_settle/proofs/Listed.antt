-- Lists that have something for each row.
use Rattle.std.proofs.Common.{◌≡◌, ◌≤◌, ◌<◌, ◌⊎◌, inl, inr, ℕ, zero, suc, ◌+◌, [], ◌∷◌, ◌++◌, length, get_or, replicate, refl, ap, sym, ◌∙◌, arith, length-append}
use Rattle.std.proofs.Math.ListN.{get_or-append, get_or-eq_default}
use Rattle.std.proofs.Math.Seq.{get_or-append_seam}
use Rattle.std.proofs.lemmas.List.{get_or-replicate, length-replicate}
use Rattle.bs_times.proofs.Members.{cases_le}
use Rattle.bs_settle.specs.Planned.{by_row}

pub by_row_more : {A : Type 0} (first : A) (f : ℕ → A) (n : ℕ) → by_row first f (n + 1) ≡ by_row first f n ++ f (n + 1) ∷ []
by_row_more first f n = let e : n + 1 ≡ suc n = omega arith in rw e refl

pub by_row_long : {A : Type 0} (first : A) (f : ℕ → A) (n : ℕ) → length (by_row first f n) ≡ n + 1
by_row_long first f zero = omega arith
by_row_long first f (suc n) = let l = length-append (by_row first f n) (f (suc n) ∷ []) in omega (arith, l, by_row_long first f n)

pub by_row_first : {A : Type 0} (first : A) (f : ℕ → A) (n : ℕ) (d : A) → get_or (by_row first f n) 0 d ≡ first
by_row_first first f zero d = refl
by_row_first first f (suc n) d = get_or-append (by_row first f n) (f (suc n) ∷ []) d 0 (omega (arith, by_row_long first f n)) ∙ by_row_first first f n d

pub by_row_at : {A : Type 0} (first : A) (f : ℕ → A) (n i : ℕ) (d : A) → 1 ≤ i → i ≤ n → get_or (by_row first f n) i d ≡ f i
by_row_at first f zero i d some most = absurd (omega (arith, some, most))
by_row_at first f (suc n) i d some most = go (cases_le i n) (by_row_at first f n i d some)
  where
    go : (i ≤ n) ⊎ (n < i) → (i ≤ n → get_or (by_row first f n) i d ≡ f i) → get_or (by_row first f (suc n)) i d ≡ f i
    go (inl le) ih = get_or-append (by_row first f n) (f (suc n) ∷ []) d i (omega (arith, le, by_row_long first f n)) ∙ ih le
    go (inr lt) ih =
        let e : suc n ≡ i = omega (arith, lt, most) in
        let l : length (by_row first f n) ≡ i = omega (arith, by_row_long first f n, e) in
        ap (λ k. get_or (by_row first f (suc n)) k d) (sym l) ∙ get_or-append_seam (by_row first f n) (f (suc n)) [] d ∙ ap f e

pub by_row_past : {A : Type 0} (first : A) (f : ℕ → A) (n i : ℕ) (d : A) → n < i → get_or (by_row first f n) i d ≡ d
by_row_past first f n i d lt = get_or-eq_default (by_row first f n) d (let l : length (by_row first f n) ≤ i = omega (arith, lt, by_row_long first f n) in l)

pub zeros : (n i : ℕ) → get_or {A = ℕ} (replicate n 0) i 0 ≡ 0
zeros n i = go (cases_le n i)
  where
    none : ℕ
    none = 0

    go : (n ≤ i) ⊎ (i < n) → get_or {A = ℕ} (replicate n 0) i 0 ≡ 0
    go (inl le) = get_or-eq_default (replicate n none) none (let l = length-replicate n none in omega (arith, l, le))
    go (inr lt) = get_or-replicate n i none none lt
