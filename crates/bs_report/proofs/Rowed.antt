-- The rows of a trace by processor, one row after another.
use Rattle.std.proofs.Common.{◌≡◌, ◌≢◌, ℕ, zero, suc, ◌<◌, ◌⊎◌, inl, inr, List, [], ◌∷◌, ◌++◌, ◌==◌, true, false, if◌then◌else◌, map, append-nil, refl, sym, ap, subst, ◌∙◌, arith, Less, Equal, Greater}
use Rattle.std.specs.Ordering.{match_ordering, nat_cmp}
use Rattle.std.specs.List.{AllByRecursion, filter, flat_map, fold}
use Rattle.std.proofs.lemmas.Bool.{cases_eq, eq-eqb, ne_eqb}
use Rattle.std.proofs.lemmas.Bool.Decides.{nat_tests}
use Rattle.std.proofs.lemmas.Cmp.{ranked}
use Rattle.std.proofs.lemmas.List.Elements.{filter-append}
use Rattle.std.proofs.lemmas.List.Sums.{fold-append}
use Rattle.bs_times.specs.Net.{Net, Starts}
use Rattle.bs_report.specs.declared.traced.Traced.{Traced}
use Rattle.bs_report.specs.Report.{with_number}
use Rattle.bs_report.specs.Trace.{in_order, processors_in, runs_before, runs_on, traced, traced_rows, with_run}
use Rattle.bs_report.specs.Headed.{by_processor}
use Rattle.bs_report.proofs.Rising.{Rises, rises_more}
use Rattle.bs_report.proofs.Placed.{Key, entries_of, put}
use Rattle.bs_report.proofs.Groups.{Lacks, all_append, all_weaker, put_groups}

-- the rows of a map
pub rows_of_entries : (rows : List Traced) → map {A = Key × Traced} (λ entry. entry.1) (entries_of rows) ≡ rows
rows_of_entries [] = refl
rows_of_entries (row ∷ rows) = ap (λ others. row ∷ others) (rows_of_entries rows)

-- ---- what holds of all rows

all_with : (P : Traced → Type 0) (row : Traced) (runs : List Traced) → P row → AllByRecursion P runs → AllByRecursion P (with_run row runs)
all_with P row [] p a = (p, tt)
all_with P row (x ∷ xs) p a =
    let more = all_with P row xs p a.1 in
    elim (runs_before row x) as (λ b. AllByRecursion P (if b then row ∷ x ∷ xs else x ∷ with_run row xs)) [
      | true ↦ (p, a)
      | false ↦ (a.0, more)
    ]

all_fold : (P : Traced → Type 0) (runs rows : List Traced) → AllByRecursion P runs → AllByRecursion P rows → AllByRecursion P (fold (λ runs row. with_run row runs) runs rows)
all_fold P runs [] a b = a
all_fold P runs (row ∷ rows) a b = all_fold P (with_run row runs) rows (all_with P row runs b.0 a) b.1

all_filter : (P : Traced → Type 0) (p : ℕ) (rows : List Traced) → AllByRecursion P rows → AllByRecursion P (filter (λ row. row.processor == p) rows)
all_filter P p [] a = tt
all_filter P p (row ∷ rows) a =
    let more = all_filter P p rows a.1 in
    elim (row.processor == p) as (λ b. AllByRecursion P (if b then row ∷ filter (λ row. row.processor == p) rows else filter (λ row. row.processor == p) rows)) [
      | true ↦ (a.0, more)
      | false ↦ more
    ]

own_filter : (p : ℕ) (rows : List Traced) → AllByRecursion (λ (x : Traced). x.processor ≡ p) (filter (λ row. row.processor == p) rows)
own_filter p [] = tt
own_filter p (row ∷ rows) = go (cases_eq row.processor p) (own_filter p rows)
  where
    go : (row.processor ≡ p) ⊎ (row.processor ≡ p → ⊥) → AllByRecursion (λ (x : Traced). x.processor ≡ p) (filter (λ row. row.processor == p) rows) → AllByRecursion (λ (x : Traced). x.processor ≡ p) (filter (λ row. row.processor == p) (row ∷ rows))
    go (inl e) ih = subst (λ b. AllByRecursion (λ (x : Traced). x.processor ≡ p) (if b then row ∷ filter (λ row. row.processor == p) rows else filter (λ row. row.processor == p) rows)) (sym (eq-eqb _ _ e)) (e, ih)
    go (inr n) ih = subst (λ b. AllByRecursion (λ (x : Traced). x.processor ≡ p) (if b then row ∷ filter (λ row. row.processor == p) rows else filter (λ row. row.processor == p) rows)) (sym (ne_eqb _ _ n)) ih

-- ---- one more row

runs_own : (rows : List Traced) (row : Traced) → runs_on (rows ++ row ∷ []) row.processor ≡ with_run row (runs_on rows row.processor)
runs_own rows row =
    let test = λ (other : Traced). other.processor == row.processor in
    let one : filter test (row ∷ []) ≡ row ∷ [] = grind (arith, nat_tests) in
    ap in_order (filter-append test rows (row ∷ []) ∙ ap (λ last. filter test rows ++ last) one)
    ∙ fold-append (λ runs row. with_run row runs) [] (filter test rows) (row ∷ [])

runs_other : (rows : List Traced) (row : Traced) (p : ℕ) → p ≢ row.processor → runs_on (rows ++ row ∷ []) p ≡ runs_on rows p
runs_other rows row p apart =
    let test = λ (other : Traced). other.processor == p in
    let none : filter test (row ∷ []) ≡ [] = grind (arith, nat_tests) in
    ap in_order (filter-append test rows (row ∷ []) ∙ ap (λ last. filter test rows ++ last) none ∙ append-nil (filter test rows))

processors_more : (rows : List Traced) (row : Traced) → processors_in (rows ++ row ∷ []) ≡ with_number row.processor (processors_in rows)
processors_more rows row = fold-append (λ processors (row : Traced). with_number row.processor processors) [] rows (row ∷ [])

-- ---- processors

abbrev IfLacks : ℕ → ℕ → List ℕ → List ℕ → Type 0
IfLacks k n ps more = Lacks k more → (n ≢ k) × Lacks k ps

lacks_more : (k n : ℕ) (ps : List ℕ) → IfLacks k n ps (with_number n ps)
lacks_more k n [] = λ a. (a.0, tt)
lacks_more k n (p ∷ ps) =
    let more = lacks_more k n ps in
    (elim (nat_cmp n p) as (λ r. r ≡ nat_cmp n p → IfLacks k n (p ∷ ps) (match_ordering r (n ∷ p ∷ ps) (p ∷ ps) (p ∷ with_number n ps))) [
      | Less ↦ λ e a. (a.0, a.1)
      | Equal ↦ λ e a. (λ q. a.0 (sym (ranked n p Equal e) ∙ q), a)
      | Greater ↦ λ e a. let rest = more a.1 in (rest.0, (a.0, rest.1))
    ]) refl

pub all_number : (P : ℕ → Type 0) (n : ℕ) (ps : List ℕ) → P n → AllByRecursion P ps → AllByRecursion P (with_number n ps)
all_number P n [] p a = (p, tt)
all_number P n (q ∷ ps) p a =
    let more = all_number P n ps p a.1 in
    elim (nat_cmp n q) as (λ r. AllByRecursion P (match_ordering r (n ∷ q ∷ ps) (q ∷ ps) (q ∷ with_number n ps))) [
      | Less ↦ (p, a)
      | Equal ↦ a
      | Greater ↦ (a.0, more)
    ]

-- there is a row
abbrev pub HasSome : List Traced → Type 0
HasSome [] = ⊥
HasSome (x ∷ xs) = Unit {0}

some_with : (row : Traced) (runs : List Traced) → HasSome (with_run row runs)
some_with row [] = tt
some_with row (x ∷ xs) =
    elim (runs_before row x) as (λ b. HasSome (if b then row ∷ x ∷ xs else x ∷ with_run row xs)) [
      | true ↦ tt
      | false ↦ tt
    ]

module _ (net : Net) (s : Starts) where
  abbrev rows : ℕ → List Traced
  rows n = traced_rows net s n

  abbrev row : ℕ → Traced
  row n = traced net s (suc n)

  pub processors_rise : (n : ℕ) → Rises (processors_in (rows n))
  processors_rise zero = tt
  processors_rise (suc n) = subst Rises (sym (processors_more (rows n) (row n))) (rises_more (row n).processor (processors_in (rows n)) (processors_rise n))

  numbers_lower : (n : ℕ) → AllByRecursion (λ (x : Traced). x.number < suc n) (rows n)
  numbers_lower zero = tt
  numbers_lower (suc n) = all_append (λ (x : Traced). x.number < suc (suc n)) (rows n) (row n ∷ [])
      (all_weaker (λ (x : Traced). x.number < suc n) (λ (x : Traced). x.number < suc (suc n)) (λ x lt. omega (arith, lt)) (rows n) (numbers_lower n))
      (omega arith, tt)

  pub runs_are_on : (n p : ℕ) → AllByRecursion (λ (x : Traced). x.processor ≡ p) (runs_on (rows n) p)
  runs_are_on n p = all_fold (λ (x : Traced). x.processor ≡ p) [] (filter (λ row. row.processor == p) (rows n)) tt (own_filter p (rows n))

  pub runs_lower : (n p : ℕ) → AllByRecursion (λ (x : Traced). x.number < suc n) (runs_on (rows n) p)
  runs_lower n p = all_fold (λ (x : Traced). x.number < suc n) [] (filter (λ row. row.processor == p) (rows n)) tt (all_filter (λ (x : Traced). x.number < suc n) p (rows n) (numbers_lower n))

  none_lacking : (n k : ℕ) → Lacks k (processors_in (rows n)) → runs_on (rows n) k ≡ []
  none_lacking zero k a = refl
  none_lacking (suc n) k a =
      let before = lacks_more k (row n).processor (processors_in (rows n)) (subst (Lacks k) (processors_more (rows n) (row n)) a) in
      runs_other (rows n) (row n) k (λ e. before.0 (sym e)) ∙ none_lacking n k before.1

  -- the next row, put into the map
  pub put_next : (n : ℕ) → put (row n) (entries_of (by_processor (rows n))) ≡ entries_of (by_processor (rows (suc n)))
  put_next n =
      put_groups (row n) (runs_on (rows n)) (runs_on (rows (suc n))) (runs_other (rows n) (row n)) (runs_own (rows n) (row n)) (runs_are_on n) (runs_lower n)
      (processors_in (rows n)) (processors_rise n) (none_lacking n (row n).processor)
      ∙ ap (λ ps. entries_of (flat_map (runs_on (rows (suc n))) ps)) (sym (processors_more (rows n) (row n)))

  -- ---- no processor without rows

  pub each_has_some : (n : ℕ) → AllByRecursion (λ p. HasSome (runs_on (rows n) p)) (processors_in (rows n))
  each_has_some zero = tt
  each_has_some (suc n) = subst (AllByRecursion (λ p. HasSome (runs_on (rows (suc n)) p))) (sym (processors_more (rows n) (row n)))
      (all_number (λ p. HasSome (runs_on (rows (suc n)) p)) (row n).processor (processors_in (rows n)) own
      (all_weaker (λ p. HasSome (runs_on (rows n) p)) (λ p. HasSome (runs_on (rows (suc n)) p)) (λ p h. still p h (cases_eq p (row n).processor)) (processors_in (rows n)) (each_has_some n)))
    where
      own : HasSome (runs_on (rows (suc n)) (row n).processor)
      own = subst HasSome (sym (runs_own (rows n) (row n))) (some_with (row n) (runs_on (rows n) (row n).processor))

      still : (p : ℕ) → HasSome (runs_on (rows n) p) → (p ≡ (row n).processor) ⊎ (p ≡ (row n).processor → ⊥) → HasSome (runs_on (rows (suc n)) p)
      still p h (inl e) = subst (λ q. HasSome (runs_on (rows (suc n)) q)) (sym e) own
      still p h (inr apart) = subst HasSome (sym (runs_other (rows n) (row n) p apart)) h
