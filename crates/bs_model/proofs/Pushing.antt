-- Items that are pushed to a list, one after the other.
use Rattle.std.proofs.Common.{◌≡◌, ◌≤◌, ◌<◌, ◌+◌, ◌⊎◌, inl, inr, ℕ, zero, suc, List, [], ◌∷◌, ◌++◌, Option, Some, length, slice_get, refl, sym, ap, subst, ◌∙◌, arith}
use Rattle.std.proofs.lemmas.Bool.{cases_lt}
use Rattle.std.proofs.lemmas.List.{length_push}

get_first : {A : Type 0} (xs : List A) (x : A) (i : ℕ) → i < length xs → slice_get (xs ++ x ∷ []) i ≡ slice_get xs i
get_first [] x i l = absurd (omega (arith, l))
get_first (y ∷ xs) x zero l = refl
get_first (y ∷ xs) x (suc i) l = get_first xs x i (omega (arith, l))

get_last : {A : Type 0} (xs : List A) (x : A) → slice_get (xs ++ x ∷ []) (length xs) ≡ Some x
get_last [] x = refl
get_last (y ∷ xs) x = get_last xs x

module _ {A : Type 0} (P : ℕ → Option A → Type 0) where
  -- there are k items, each as it is wanted
  pub record Pushed (k : ℕ) (xs : List A) : Type 0 where
    pub count : length xs ≡ k
    pub each : (c : ℕ) → c < k → P c (slice_get xs c)

  pub pushed_none : Pushed 0 []
  pushed_none = record { count = refl; each = λ c l. absurd (omega (arith, l)) }

  pub pushed_more : (k : ℕ) (xs : List A) (x : A) → Pushed k xs → P k (Some x) → Pushed (k + 1) (xs ++ x ∷ [])
  pushed_more k xs x h p = record { count = length_push xs x ∙ ap (λ n. n + 1) h.count; each = λ c l. by_place c l (cases_lt c k) }
    where
      by_place : (c : ℕ) → c < k + 1 → (c < k) ⊎ (k ≤ c) → P c (slice_get (xs ++ x ∷ []) c)
      by_place c l (inl i) = subst (λ o. P c o) (sym (get_first xs x c (let e = h.count in omega (arith, i, e)))) (h.each c i)
      by_place c l (inr i) =
          let here : slice_get (xs ++ x ∷ []) k ≡ Some x = subst (λ n. slice_get (xs ++ x ∷ []) n ≡ Some x) h.count (get_last xs x) in
          let at : k ≡ c = omega (arith, l, i) in
          subst (λ c. P c (slice_get (xs ++ x ∷ []) c)) at (subst (λ o. P k o) (sym here) p)
