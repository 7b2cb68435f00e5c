-- Rows by processor, and one more row.
use Rattle.std.proofs.Common.{◌≡◌, ◌≢◌, ℕ, ◌<◌, ◌⊎◌, inl, inr, List, [], ◌∷◌, ◌++◌, refl, sym, ap, subst, ◌∙◌, arith}
use Rattle.std.specs.Ordering.{match_ordering}
use Rattle.std.specs.List.{AllByRecursion, flat_map}
use Rattle.std.proofs.lemmas.Bool.{cases_order}
use Rattle.std.proofs.lemmas.List.{map-append}
use Rattle.bs_report.specs.declared.traced.Traced.{Traced}
use Rattle.bs_report.specs.Report.{with_number}
use Rattle.bs_report.specs.Trace.{with_run}
use Rattle.bs_report.proofs.Rising.{Above, Rises, above_lower}
use Rattle.bs_report.proofs.Placed.{Key, Own, entries_of, entry_of, is_equal, is_greater, is_less, put, put_behind, put_here}

pub all_append : {X : Type 0} (P : X → Type 0) (xs ys : List X) → AllByRecursion P xs → AllByRecursion P ys → AllByRecursion P (xs ++ ys)
all_append P [] ys a b = b
all_append P (x ∷ xs) ys a b = (a.0, all_append P xs ys a.1 b)

pub all_weaker : {X : Type 0} (P Q : X → Type 0) → ((x : X) → P x → Q x) → (xs : List X) → AllByRecursion P xs → AllByRecursion Q xs
all_weaker P Q f [] a = tt
all_weaker P Q f (x ∷ xs) a = (f x a.0, all_weaker P Q f xs a.1)

pub all_both : {X : Type 0} (P Q : X → Type 0) (xs : List X) → AllByRecursion P xs → AllByRecursion Q xs → AllByRecursion (λ x. P x × Q x) xs
all_both P Q [] a b = tt
all_both P Q (x ∷ xs) a b = ((a.0, b.0), all_both P Q xs a.1 b.1)

-- the number isn't among them
abbrev pub Lacks : ℕ → List ℕ → Type 0
Lacks k ps = AllByRecursion (λ p. p ≢ k) ps

above_lacks : (k : ℕ) (ps : List ℕ) → Above k ps → Lacks k ps
above_lacks k ps a = all_weaker (λ p. k < p) (λ p. p ≢ k) (λ p lt e. omega (arith, lt, e)) ps a

pub more_less : (k p : ℕ) (ps : List ℕ) → k < p → with_number k (p ∷ ps) ≡ k ∷ p ∷ ps
more_less k p ps h = ap (λ o. match_ordering o (k ∷ p ∷ ps) (p ∷ ps) (p ∷ with_number k ps)) (is_less k p h)

pub more_equal : (k p : ℕ) (ps : List ℕ) → k ≡ p → with_number k (p ∷ ps) ≡ p ∷ ps
more_equal k p ps h = ap (λ o. match_ordering o (k ∷ p ∷ ps) (p ∷ ps) (p ∷ with_number k ps)) (is_equal k p h)

pub more_greater : (k p : ℕ) (ps : List ℕ) → p < k → with_number k (p ∷ ps) ≡ p ∷ with_number k ps
more_greater k p ps h = ap (λ o. match_ordering o (k ∷ p ∷ ps) (p ∷ ps) (p ∷ with_number k ps)) (is_greater k p h)

-- the rows of each processor before (f) and after (g) the row came to its own
module _ (row : Traced) (f g : ℕ → List Traced) (others : (p : ℕ) → p ≢ row.processor → g p ≡ f p) (own : g row.processor ≡ with_run row (f row.processor))
    (on : (p : ℕ) → AllByRecursion (λ (x : Traced). x.processor ≡ p) (f p)) (lower : (p : ℕ) → AllByRecursion (λ (x : Traced). x.number < row.number) (f p)) where
  k : ℕ
  k = row.processor

  same_lacking : (ps : List ℕ) → Lacks row.processor ps → flat_map g ps ≡ flat_map f ps
  same_lacking [] a = refl
  same_lacking (p ∷ ps) a = let here = others p a.0 in let rest = same_lacking ps a.1 in λ i. here i ++ rest i

  above_groups : (n : ℕ) (ps : List ℕ) → Above n ps → AllByRecursion (λ (x : Traced). n < x.processor) (flat_map f ps)
  above_groups n [] a = tt
  above_groups n (p ∷ ps) a = all_append (λ (x : Traced). n < x.processor) (f p) (flat_map f ps)
      (all_weaker (λ (x : Traced). x.processor ≡ p) (λ (x : Traced). n < x.processor) (λ x e. omega (arith, e, a.0)) (f p) (on p))
      (above_groups n ps a.1)

  pub put_groups : (ps : List ℕ) → Rises ps → (Lacks row.processor ps → f row.processor ≡ []) → put row (entries_of (flat_map f ps)) ≡ entries_of (flat_map g (with_number row.processor ps))
  put_groups [] rises absent = sym (ap (λ xs. entries_of (xs ++ [])) (own ∙ ap (with_run row) (absent tt)))
  put_groups (p ∷ ps) rises absent = go (cases_order row.processor p) (put_groups ps rises.1)
    where
      less : row.processor < p → put row (entries_of (flat_map f (p ∷ ps))) ≡ entries_of (flat_map g (with_number row.processor (p ∷ ps)))
      less h =
          let above : Above row.processor (p ∷ ps) = (h, above_lower row.processor p ps h rises.0) in
          let lacks = above_lacks row.processor (p ∷ ps) above in
          let none : g row.processor ≡ row ∷ [] = own ∙ ap (with_run row) (absent lacks) in
          let rest = same_lacking (p ∷ ps) lacks in
          put_here row [] (flat_map f (p ∷ ps)) tt (above_groups row.processor (p ∷ ps) above)
          ∙ sym (λ i. entries_of (none i ++ rest i))
          ∙ sym (ap (λ qs. entries_of (flat_map g qs)) (more_less row.processor p ps h))

      equal : row.processor ≡ p → put row (entries_of (flat_map f (p ∷ ps))) ≡ entries_of (flat_map g (with_number row.processor (p ∷ ps)))
      equal e =
          let above : Above row.processor ps = subst (λ n. Above n ps) (sym e) rises.0 in
          let here : g p ≡ with_run row (f p) = subst (λ n. g n ≡ with_run row (f n)) e own in
          let rest = same_lacking ps (above_lacks row.processor ps above) in
          let owned : Own row (f p) = all_both (λ (x : Traced). x.processor ≡ row.processor) (λ (x : Traced). x.number < row.number) (f p)
          (all_weaker (λ (x : Traced). x.processor ≡ p) (λ (x : Traced). x.processor ≡ row.processor) (λ x is. is ∙ sym e) (f p) (on p)) (lower p) in
          put_here row (f p) (flat_map f ps) owned (above_groups row.processor ps above)
          ∙ sym (λ i. entries_of (here i ++ rest i))
          ∙ sym (ap (λ qs. entries_of (flat_map g qs)) (more_equal row.processor p ps e))

      greater : p < row.processor → put row (entries_of (flat_map f ps)) ≡ entries_of (flat_map g (with_number row.processor ps)) → put row (entries_of (flat_map f (p ∷ ps))) ≡ entries_of (flat_map g (with_number row.processor (p ∷ ps)))
      greater h ih =
          let here : g p ≡ f p = others p (λ e. omega (arith, e, h)) in
          let before = all_weaker (λ (x : Traced). x.processor ≡ p) (λ (x : Traced). x.processor < row.processor) (λ x e. omega (arith, e, h)) (f p) (on p) in
          put_behind row (f p) (flat_map f ps) before
          ∙ ap {A = List (Key × Traced)} (λ es. entries_of (f p) ++ es) ih
          ∙ sym (map-append {B = Key × Traced} entry_of (f p) (flat_map g (with_number row.processor ps)))
          ∙ sym (ap (λ xs. entries_of (xs ++ flat_map g (with_number row.processor ps))) here)
          ∙ sym (ap (λ qs. entries_of (flat_map g qs)) (more_greater row.processor p ps h))

      go : (row.processor ≡ p) ⊎ ((row.processor < p) ⊎ (p < row.processor)) → ((Lacks row.processor ps → f row.processor ≡ []) → put row (entries_of (flat_map f ps)) ≡ entries_of (flat_map g (with_number row.processor ps)))
          → put row (entries_of (flat_map f (p ∷ ps))) ≡ entries_of (flat_map g (with_number row.processor (p ∷ ps)))
      go (inl e) ih = equal e
      go (inr (inl h)) ih = less h
      go (inr (inr h)) ih = greater h (ih (λ lacks. absent ((λ e. omega (arith, e, h)), lacks)))
