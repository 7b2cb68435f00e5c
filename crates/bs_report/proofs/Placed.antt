-- A row put into a map of rows by (processor, start, number).
use Rattle.std.proofs.Common.{◌≡◌, ℕ, ◌<◌, ◌⊎◌, inl, inr, List, [], ◌∷◌, ◌++◌, map, true, false, if◌then◌else◌, refl, sym, ap, ◌∙◌, arith, Ordering, Less, Equal, Greater}
use Rattle.std.specs.Ordering.{match_ordering, nat_cmp, ordering_then}
use Rattle.std.specs.BTreeMap.{insert_entry}
use Rattle.std.specs.List.{AllByRecursion}
use Rattle.std.proofs.lemmas.Bool.{cases_order, lt-ltb, le-ltb, eq-eqb, ne_eqb, cond-true, cond-false}
use Rattle.std.proofs.lemmas.Bool.Decides.{nat_tests}
use Rattle.bs_report.specs.declared.traced.Traced.{Traced}
use Rattle.bs_report.specs.Trace.{runs_before, with_run}

abbrev pub Key : Type 0
Key = ℕ × ℕ × ℕ

abbrev pub key_of : Traced → Key
key_of row = (row.processor, row.start, row.number)

abbrev pub entry_of : Traced → Key × Traced
entry_of row = (key_of row, row)

abbrev pub entries_of : List Traced → List (Key × Traced)
entries_of rows = map {B = Key × Traced} entry_of rows

abbrev pub key_cmp : Key → Key → Ordering
key_cmp x y = ordering_then (ordering_then (nat_cmp x.0 y.0) (nat_cmp x.1 y.1)) (nat_cmp x.2 y.2)

abbrev pub put : Traced → List (Key × Traced) → List (Key × Traced)
put row entries = insert_entry key_cmp entries (key_of row) row

-- ---- the order of two numbers

pub is_less : (x y : ℕ) → x < y → nat_cmp x y ≡ Less
is_less x y h = cond-true _ _ _ (lt-ltb x y h)

pub is_equal : (x y : ℕ) → x ≡ y → nat_cmp x y ≡ Equal
is_equal x y e = cond-false _ _ _ (le-ltb x y (omega (arith, e))) ∙ cond-true _ _ _ (eq-eqb x y e)

pub is_greater : (x y : ℕ) → y < x → nat_cmp x y ≡ Greater
is_greater x y h = cond-false _ _ _ (le-ltb x y (omega arith)) ∙ cond-false _ _ _ (ne_eqb x y (λ e. omega (arith, e, h)))

-- ---- the order of two rows

lower_key : (a b : Traced) → a.processor < b.processor → key_cmp (key_of a) (key_of b) ≡ Less
lower_key a b h = ap (λ o. ordering_then (ordering_then o (nat_cmp a.start b.start)) (nat_cmp a.number b.number)) (is_less a.processor b.processor h)

higher_key : (a b : Traced) → b.processor < a.processor → key_cmp (key_of a) (key_of b) ≡ Greater
higher_key a b h = ap (λ o. ordering_then (ordering_then o (nat_cmp a.start b.start)) (nat_cmp a.number b.number)) (is_greater a.processor b.processor h)

own_key : (a b : Traced) (o : Ordering) → a.processor ≡ b.processor → ordering_then (nat_cmp a.start b.start) (nat_cmp a.number b.number) ≡ o → key_cmp (key_of a) (key_of b) ≡ o
own_key a b o h e = ap (λ o. ordering_then (ordering_then o (nat_cmp a.start b.start)) (nat_cmp a.number b.number)) (is_equal a.processor b.processor h) ∙ e

-- where a row comes behind or before one of the same processor and of a lower number
abbrev Stands : Traced → Traced → Type 0
Stands a b = ((key_cmp (key_of a) (key_of b) ≡ Less) × (runs_before a b ≡ true)) ⊎ ((key_cmp (key_of a) (key_of b) ≡ Greater) × (runs_before a b ≡ false))

stands : (a b : Traced) → b.processor ≡ a.processor → b.number < a.number → Stands a b
stands a b on lower = go (cases_order a.start b.start)
  where
    sooner : a.start < b.start → runs_before a b ≡ true
    sooner h = grind (arith, nat_tests)

    later : (a.start < b.start → ⊥) → runs_before a b ≡ false
    later h = grind (arith, nat_tests)

    go : (a.start ≡ b.start) ⊎ ((a.start < b.start) ⊎ (b.start < a.start)) → Stands a b
    go (inl e) = inr (
      own_key a b Greater (sym on) (ap (λ o. ordering_then o (nat_cmp a.number b.number)) (is_equal a.start b.start e) ∙ is_greater a.number b.number lower),
      later (λ h. omega (arith, e, h)),
    )
    go (inr (inl h)) = inl (own_key a b Less (sym on) (ap (λ o. ordering_then o (nat_cmp a.number b.number)) (is_less a.start b.start h)), sooner h)
    go (inr (inr h)) = inr (own_key a b Greater (sym on) (ap (λ o. ordering_then o (nat_cmp a.number b.number)) (is_greater a.start b.start h)), later (λ l. omega (arith, l, h)))

-- ---- the row at its place

at_order : (row first : Traced) (es : List (Key × Traced)) (o : Ordering) → key_cmp (key_of row) (key_of first) ≡ o
    → put row (entry_of first ∷ es) ≡ match_ordering {X = List (Key × Traced)} o (entry_of row ∷ entry_of first ∷ es) ((key_of first, row) ∷ es) (entry_of first ∷ put row es)
at_order row first es o e = ap (λ o. match_ordering {X = List (Key × Traced)} o (entry_of row ∷ entry_of first ∷ es) ((key_of first, row) ∷ es) (entry_of first ∷ put row es)) e

-- rows of its processor that have lower numbers
abbrev pub Own : Traced → List Traced → Type 0
Own row rows = AllByRecursion (λ x. (x.processor ≡ row.processor) × (x.number < row.number)) rows

-- among its own, before those of higher processors
pub put_here : (row : Traced) (xs rest : List Traced) → Own row xs → AllByRecursion (λ x. row.processor < x.processor) rest → put row (entries_of (xs ++ rest)) ≡ entries_of (with_run row xs ++ rest)
put_here row [] [] own above = refl
put_here row [] (y ∷ ys) own above = at_order row y (entries_of ys) Less (lower_key row y above.0)
put_here row (x ∷ xs) rest own above = go (stands row x own.0.0 own.0.1) (put_here row xs rest own.1 above)
  where
    there : (b : _) → runs_before row x ≡ b → entries_of ((if b then row ∷ x ∷ xs else x ∷ with_run row xs) ++ rest) ≡ entries_of (with_run row (x ∷ xs) ++ rest)
    there b e = sym (ap (λ b. entries_of ((if b then row ∷ x ∷ xs else x ∷ with_run row xs) ++ rest)) e)

    go : Stands row x → put row (entries_of (xs ++ rest)) ≡ entries_of (with_run row xs ++ rest) → put row (entries_of ((x ∷ xs) ++ rest)) ≡ entries_of (with_run row (x ∷ xs) ++ rest)
    go (inl h) ih = at_order row x (entries_of (xs ++ rest)) Less h.0 ∙ there true h.1
    go (inr h) ih = at_order row x (entries_of (xs ++ rest)) Greater h.0 ∙ ap {A = List (Key × Traced)} (λ es. entry_of x ∷ es) ih ∙ there false h.1

-- behind those of lower processors
pub put_behind : (row : Traced) (xs rest : List Traced) → AllByRecursion (λ x. x.processor < row.processor) xs → put row (entries_of (xs ++ rest)) ≡ entries_of xs ++ put row (entries_of rest)
put_behind row [] rest lower = refl
put_behind row (x ∷ xs) rest lower = at_order row x (entries_of (xs ++ rest)) Greater (higher_key row x lower.0) ∙ ap {A = List (Key × Traced)} (λ es. entry_of x ∷ es) (put_behind row xs rest lower.1)
