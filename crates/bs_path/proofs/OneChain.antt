-- There is only one critical chain, whichever consistent table is taken.
use Rattle.std.proofs.Common.{◌≡◌, ◌≤◌, ◌⊎◌, inl, inr, ◌++◌, ℕ, List, [], ◌∷◌, Option, Some, None, sym, ap, subst, ◌∙◌, arith}
use Rattle.bs_times.specs.Net.{Net, Starts, Causal}
use Rattle.bs_times.specs.Times.{IsConsistent}
use Rattle.bs_times.proofs.Unique.{one_consistent_table}
use Rattle.bs_path.specs.declared.links.ChainRow.{ChainRow}
use Rattle.bs_path.specs.declared.links.Chain.{Chain}
use Rattle.bs_path.specs.Chain.{IsCritical, IsLinkOf, LeadTo, begins, comes_from, goes_on, row_of_chain}
use Rattle.bs_path.proofs.Latest.{last_moved, one_last, span_moved}
use Rattle.bs_path.proofs.OneLink.{SameStarts, link_moved, one_link, row_moved}

no_row : (j : ℕ) (o : Option ℕ) → o ≡ None → o ≡ Some j → ⊥
no_row j o e f = cc (sym e ∙ f)

one_row : (j k : ℕ) (o : Option ℕ) → o ≡ Some j → o ≡ Some k → j ≡ k
one_row j k o e f = cc (sym e ∙ f)

module _ (net : Net) (c : Causal net) (s : Starts) (table : IsConsistent net s) where
  pub one_way : (i j : ℕ) (xs ys : List ChainRow) → LeadTo net s i xs → LeadTo net s j ys → i ≡ j → xs ≡ ys
  one_way _ _ _ _ (begins i a has is e) (begins j b had was f) q =
      let same : a ≡ b = one_link net c s table i a b has is (subst (λ n. IsLinkOf net s n b) (sym q) was) in
      λ k. row_of_chain s (q k) (same k) ∷ []
  one_way _ _ _ _ (begins i a has is e) (goes_on j k b ys had was f way) q =
      let same : a ≡ b = one_link net c s table i a b has is (subst (λ n. IsLinkOf net s n b) (sym q) was) in
      absurd (no_row k (comes_from a) e (ap comes_from same ∙ f))
  one_way _ _ _ _ (goes_on i k a xs has is e way) (begins j b had was f) q =
      let same : a ≡ b = one_link net c s table i a b has is (subst (λ n. IsLinkOf net s n b) (sym q) was) in
      absurd (no_row k (comes_from a) (ap comes_from same ∙ f) e)
  one_way _ _ _ _ (goes_on i k a xs has is e way) (goes_on j l b ys had was f path) q =
      let same : a ≡ b = one_link net c s table i a b has is (subst (λ n. IsLinkOf net s n b) (sym q) was) in
      let rows : xs ≡ ys = one_way k l xs ys way path (one_row k l (comes_from a) e (ap comes_from same ∙ f)) in
      λ n. rows n ++ row_of_chain s (q n) (same n) ∷ []

pub way_moved : (net : Net) → Causal net → (s z : Starts) → SameStarts net s z → (i : ℕ) (rows : List ChainRow) → LeadTo net s i rows → LeadTo net z i rows
way_moved net c s z same _ _ (begins i l has is e) =
    subst (λ r. LeadTo net z i (r ∷ [])) (sym (row_moved net c s z same i l has is)) (begins i l has (link_moved net c s z same i l has is) e)
way_moved net c s z same _ _ (goes_on i j l rows has is e way) =
    subst (λ r. LeadTo net z i (rows ++ r ∷ [])) (sym (row_moved net c s z same i l has is))
    (goes_on i j l rows has (link_moved net c s z same i l has is) e (way_moved net c s z same j rows way))

pub one_chain : (net : Net) → Causal net → (s z : Starts) → IsConsistent net s → IsConsistent net z → (a b : Chain) → IsCritical net s a → IsCritical net z b → a ≡ b
one_chain net c s z table other a b p q = go (cases net.rows)
  where
    same : SameStarts net s z
    same = one_consistent_table net c s z table other

    cases : (n : ℕ) → (n ≡ 0) ⊎ (1 ≤ n)
    cases n = grind arith

    span : a.span ≡ b.span
    span = p.span ∙ span_moved net s z same ∙ sym q.span

    all : a.rows ≡ b.rows → a.rest ≡ b.rest → a ≡ b
    all rows rest = λ k. record { rows = rows k; rest = rest k; span = span k }

    go : (net.rows ≡ 0) ⊎ (1 ≤ net.rows) → a ≡ b
    go (inl none) = all ((p.none none).0 ∙ sym (q.none none).0) ((p.none none).1 ∙ sym (q.none none).1)
    go (inr some) =
        let x = p.some some in
        let y = q.some some in
        let last : x.0 ≡ y.0 = one_last net z x.0 y.0 (last_moved net s z same x.0 x.1) y.1 in
        all (one_way net c z other x.0 y.0 a.rows b.rows (way_moved net c s z same x.0 a.rows x.2) y.2 last) (x.3 ∙ ap net.duration last ∙ sym y.3)
