-- Items of a list that are put anew, one place after the other.
use Rattle.std.proofs.Common.{◌≡◌, ◌≤◌, ◌<◌, ◌+◌, ◌⊎◌, inl, inr, ℕ, List, Option, Some, length, slice_get, slice_set, sym, subst, ◌∙◌, arith}
use Rattle.std.proofs.lemmas.Bool.{cases_lt}
use Rattle.std.proofs.lemmas.List.{length-set}
use Rattle.bs_model.proofs.Places.{get_set_same, get_set_other}

module _ {A : Type 0} (P : ℕ → Option A → Type 0) (n : ℕ) where
  -- of n items the first k are as they are wanted
  pub record Renewing (k : ℕ) (xs : List A) : Type 0 where
    pub count : length xs ≡ n
    pub done : (c : ℕ) → c < k → P c (slice_get xs c)

  -- the next item is put anew
  pub renews_set : (k : ℕ) (xs : List A) (x : A) → k < n → Renewing k xs → P k (Some x) → Renewing (k + 1) (slice_set xs k x)
  renews_set k xs x l r p = record {
    count = length-set xs k x ∙ r.count;
    done = λ c h. by_place c h (cases_lt c k);
  }
    where
      by_place : (c : ℕ) → c < k + 1 → (c < k) ⊎ (k ≤ c) → P c (slice_get (slice_set xs k x) c)
      by_place c h (inl b) = subst (λ o. P c o) (sym (get_set_other xs k c x (λ e. omega (arith, b, e)))) (r.done c b)
      by_place c h (inr b) =
          let at : c ≡ k = omega (arith, h, b) in
          let q = r.count in
          subst (λ c. P c (slice_get (slice_set xs k x) c)) (sym at) (subst (λ o. P k o) (sym (get_set_same xs k x (omega (arith, l, q)))) p)
