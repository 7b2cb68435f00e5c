-- The book's entries, with the places in their keys.
use Rattle.std.proofs.Common.{◌≡◌, ℕ, cond, List, [], ◌∷◌, Some, map, refl, ap}
use Rattle.std.specs.declared.cmp.Ordering.{Ordering}
use Rattle.std.specs.declared.cmp.Ordering.TheVariants.{Less, Equal, Greater}
use Rattle.std.specs.Ordering.{nat_cmp, is_eq, match_ordering}
use Rattle.std.specs.Cmp.Lexicographic.{slice_cmp}
use Rattle.std.specs.Map as entry
use Rattle.std.specs.Map.{values_of}
use Rattle.std.specs.BTreeMap.{is_at, insert_entry}

abbrev pub cmp_items : {K : Type 0} → (K → List ℕ) → K → K → Ordering
cmp_items items a b = slice_cmp nat_cmp (items a) (items b)

module _ {K X : Type 0} (items : K → List ℕ) where
  -- an entry, with the places in its key
  abbrev pub seen : K × X → List ℕ × X
  seen e = (items e.0, e.1)

  pub looks_up : (key : List ℕ) (es : List (K × X)) → entry.lookup (is_at (λ k. slice_cmp nat_cmp key (items k))) es ≡ entry.lookup (is_at (slice_cmp nat_cmp key)) (map seen es)
  looks_up key [] = refl
  looks_up key (e ∷ es) = ap (λ o. cond (is_eq (slice_cmp nat_cmp key (items e.0))) (Some e.1) o) (looks_up key es)

  seen_if : (o : Ordering) (k : K) (v : X) (e : K × X) (es rest : List (K × X)) (rest2 : List (List ℕ × X)) → map seen rest ≡ rest2
      → map seen (match_ordering o ((k, v) ∷ e ∷ es) ((e.0, v) ∷ es) (e ∷ rest)) ≡ match_ordering o ((items k, v) ∷ seen e ∷ map seen es) ((items e.0, v) ∷ map seen es) (seen e ∷ rest2)
  seen_if Less k v e es rest rest2 h = refl
  seen_if Equal k v e es rest rest2 h = refl
  seen_if Greater k v e es rest rest2 h = ap (λ zs. seen e ∷ zs) h

  pub inserts : (k : K) (v : X) (es : List (K × X)) → map seen (insert_entry (cmp_items items) es k v) ≡ insert_entry (slice_cmp nat_cmp) (map seen es) (items k) v
  inserts k v [] = refl
  inserts k v (e ∷ es) = seen_if (cmp_items items k e.0) k v e es (insert_entry (cmp_items items) es k v) _ (inserts k v es)

  pub values_seen : {Y : Type 0} (f : X → Y) (es : List (K × X)) → map f (values_of es) ≡ map (λ e. f e.1) (map seen es)
  values_seen f [] = refl
  values_seen f (e ∷ es) = ap (λ ys. f e.1 ∷ ys) (values_seen f es)
