-- Each row stands in a trace exactly once.
use Rattle.std.proofs.Common.{◌≡◌, ◌≤◌, ◌<◌, ◌⊎◌, inl, inr, ℕ, zero, suc, ◌+◌, ◌==◌, true, false, if◌then◌else◌, List, [], ◌∷◌, ◌++◌, length, map, length-append, refl, sym, ap, subst, ◌∙◌, arith, Ordering, Less, Equal, Greater}
use Rattle.std.specs.Ordering.{match_ordering, nat_cmp, ordering_then}
use Rattle.std.specs.List.{AllByRecursion, filter, flat_map}
use Rattle.std.proofs.lemmas.Bool.{eq-eqb, ne_eqb}
use Rattle.std.proofs.lemmas.Cmp.{ranked}
use Rattle.std.proofs.lemmas.List.Elements.{filter-append}
use Rattle.bs_times.specs.Net.{Net, Starts}
use Rattle.bs_report.specs.declared.traced.Traced.{Traced}
use Rattle.bs_report.specs.Headed.{by_processor}
use Rattle.bs_report.specs.Trace.{processors_in, runs_on, traced, traced_rows}
use Rattle.bs_report.proofs.Groups.{all_append}
use Rattle.bs_report.proofs.Placed.{Key, entries_of, entry_of, key_cmp, key_of, put}
use Rattle.bs_report.proofs.Rowed.{put_next, rows_of_entries, runs_lower}

-- the row is one more among the others
record IsOneMore (row : Traced) (xs more : List Traced) : Type 0 where
  front : List Traced
  back : List Traced
  before : xs ≡ front ++ back
  after : more ≡ front ++ (row ∷ back)

then_equal : (o p : Ordering) → ordering_then o p ≡ Equal → p ≡ Equal
then_equal Less p e = let n : Less ≡ Equal = e in absurd cc
then_equal Equal p e = e
then_equal Greater p e = let n : Greater ≡ Equal = e in absurd cc

same_number : (a b : Traced) → key_cmp (key_of a) (key_of b) ≡ Equal → a.number ≡ b.number
same_number a b e = ranked a.number b.number Equal (sym (then_equal (ordering_then (nat_cmp a.processor b.processor) (nat_cmp a.start b.start)) (nat_cmp a.number b.number) e))

put_is_one_more : (row : Traced) (xs : List Traced) → AllByRecursion (λ (x : Traced). x.number < row.number) xs → IsOneMore row xs (map {A = Key × Traced} (λ entry. entry.1) (put row (entries_of xs)))
put_is_one_more row [] lower = record { front = []; back = []; before = refl; after = refl }
put_is_one_more row (x ∷ xs) lower =
    let others = put_is_one_more row xs lower.1 in
    (elim (key_cmp (key_of row) (key_of x)) as (λ o. o ≡ key_cmp (key_of row) (key_of x) → IsOneMore row (x ∷ xs)
    (map {A = Key × Traced} (λ entry. entry.1) (match_ordering {X = List (Key × Traced)} o (entry_of row ∷ entry_of x ∷ entries_of xs) ((key_of x, row) ∷ entries_of xs) (entry_of x ∷ put row (entries_of xs))))) [
      | Less ↦ λ e. record { front = []; back = x ∷ xs; before = refl; after = ap (λ rows. row ∷ x ∷ rows) (rows_of_entries xs) }
      | Equal ↦ λ e. let same = same_number row x (sym e) in absurd (omega (arith, same, lower.0))
      | Greater ↦ λ e. record { front = x ∷ others.front; back = others.back; before = ap (λ rows. x ∷ rows) others.before; after = ap (λ rows. x ∷ rows) others.after }
    ]) refl

all_groups : (P : Traced → Type 0) (f : ℕ → List Traced) → ((p : ℕ) → AllByRecursion P (f p)) → (ps : List ℕ) → AllByRecursion P (flat_map f ps)
all_groups P f each [] = tt
all_groups P f each (p ∷ ps) = all_append P (f p) (flat_map f ps) (each p) (all_groups P f each ps)

none_numbered : (i : ℕ) (xs : List Traced) → AllByRecursion (λ (x : Traced). x.number < i) xs → filter (λ row. row.number == i) xs ≡ []
none_numbered i [] lower = refl
none_numbered i (x ∷ xs) lower =
    let others = none_numbered i xs lower.1 in
    ap (λ b. if b then x ∷ filter (λ row. row.number == i) xs else filter (λ row. row.number == i) xs) (ne_eqb x.number i (λ e. omega (arith, e, lower.0))) ∙ others

no_front : {A : Type 0} (xs ys : List A) → xs ++ ys ≡ [] → (xs ≡ []) × (ys ≡ [])
no_front [] ys e = (refl, e)
no_front (x ∷ xs) ys e = absurd cc

module _ (net : Net) (s : Starts) where
  lower_numbers : (n : ℕ) → AllByRecursion (λ (x : Traced). x.number < suc n) (by_processor (traced_rows net s n))
  lower_numbers n = all_groups (λ (x : Traced). x.number < suc n) (runs_on (traced_rows net s n)) (runs_lower net s n) (processors_in (traced_rows net s n))

  one_more : (n : ℕ) → IsOneMore (traced net s (suc n)) (by_processor (traced_rows net s n)) (by_processor (traced_rows net s (suc n)))
  one_more n =
      subst (IsOneMore (traced net s (suc n)) (by_processor (traced_rows net s n))) (ap (λ entries. map {A = Key × Traced} (λ entry. entry.1) entries) (put_next net s n) ∙ rows_of_entries (by_processor (traced_rows net s (suc n))))
      (put_is_one_more (traced net s (suc n)) (by_processor (traced_rows net s n)) (lower_numbers n))

  order : (i n : ℕ) → i ≤ suc n → (i ≡ suc n) ⊎ (i ≤ n)
  order i n le = grind arith

  pub row_once : (n i : ℕ) → 1 ≤ i → i ≤ n → filter (λ row. row.number == i) (by_processor (traced_rows net s n)) ≡ traced net s i ∷ []
  row_once zero i some most = absurd (omega (arith, some, most))
  row_once (suc n) i some most = go (order i n most) (row_once n i some)
    where
      more : IsOneMore (traced net s (suc n)) (by_processor (traced_rows net s n)) (by_processor (traced_rows net s (suc n)))
      more = one_more n

      parts : filter (λ row. row.number == i) (by_processor (traced_rows net s (suc n))) ≡ filter (λ row. row.number == i) more.front ++ filter (λ row. row.number == i) (traced net s (suc n) ∷ more.back)
      parts = ap (filter (λ row. row.number == i)) more.after ∙ filter-append (λ (row : Traced). row.number == i) more.front (traced net s (suc n) ∷ more.back)

      others : filter (λ row. row.number == i) (by_processor (traced_rows net s n)) ≡ filter (λ row. row.number == i) more.front ++ filter (λ row. row.number == i) more.back
      others = ap (filter (λ row. row.number == i)) more.before ∙ filter-append (λ (row : Traced). row.number == i) more.front more.back

      go : (i ≡ suc n) ⊎ (i ≤ n) → (i ≤ n → filter (λ row. row.number == i) (by_processor (traced_rows net s n)) ≡ traced net s i ∷ []) → filter (λ row. row.number == i) (by_processor (traced_rows net s (suc n))) ≡ traced net s i ∷ []
      go (inl e) ih =
          let none = no_front _ _ (sym others ∙ none_numbered i (by_processor (traced_rows net s n)) (subst (λ j. AllByRecursion (λ (x : Traced). x.number < j) (by_processor (traced_rows net s n))) (sym e) (lower_numbers n))) in
          let yes : (suc n == i) ≡ true = eq-eqb (suc n) i (sym e) in
          parts
          ∙ ap (λ front. front ++ filter (λ row. row.number == i) (traced net s (suc n) ∷ more.back)) none.0
          ∙ ap (λ b. if b then traced net s (suc n) ∷ filter (λ row. row.number == i) more.back else filter (λ row. row.number == i) more.back) yes
          ∙ ap (λ rows. traced net s (suc n) ∷ rows) none.1
          ∙ ap (λ j. traced net s j ∷ []) (sym e)
      go (inr le) ih =
          let no : (suc n == i) ≡ false = ne_eqb (suc n) i (λ e. omega (arith, e, le)) in
          parts
          ∙ ap (λ b. filter (λ row. row.number == i) more.front ++ (if b then traced net s (suc n) ∷ filter (λ row. row.number == i) more.back else filter (λ row. row.number == i) more.back)) no
          ∙ sym others
          ∙ ih le

  pub no_others : (n : ℕ) → length (by_processor (traced_rows net s n)) ≡ n
  no_others zero = refl
  no_others (suc n) =
      let more = one_more n in
      let after : length (by_processor (traced_rows net s (suc n))) ≡ length more.front + length (traced net s (suc n) ∷ more.back) = ap length more.after ∙ length-append more.front (traced net s (suc n) ∷ more.back) in
      let before : length (by_processor (traced_rows net s n)) ≡ length more.front + length more.back = ap length more.before ∙ length-append more.front more.back in
      omega (arith, after, before, no_others n)
