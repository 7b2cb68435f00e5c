-- The first of the least of a list.
use Rattle.std.proofs.Common.{◌≡◌, ◌≤◌, ◌<◌, ◌+◌, ◌⊎◌, ◌==◌, inl, inr, ℕ, zero, suc, Bool, true, false, if◌then◌else◌, List, [], ◌∷◌, length, get_or, refl, sym, subst, ◌∙◌, arith}
use Rattle.std.proofs.lemmas.Bool.{cases_order, eq-eqb, eqb-true, true≢false}
use Rattle.std.proofs.lemmas.List.{length-map}
use Rattle.bs_num.specs.declared.ticks.Tick.{Tick}
use Rattle.bs_line.specs.Making.{numbers}
use Rattle.bs_line.specs.Places.{row_place}
use Rattle.bs_schedule.specs.Plan.{at}
use Rattle.bs_whatif.specs.Best.{IsFirstLeast, best_of, least}

least_below : (xs : List ℕ) (k : ℕ) → k < length xs → least xs ≤ at xs k
least_below [] k lt = absurd (omega (arith, lt))
least_below (x ∷ []) zero lt = omega arith
least_below (x ∷ []) (suc k) lt = absurd (omega (arith, lt))
least_below (x ∷ y ∷ ys) zero lt = omega arith
least_below (x ∷ y ∷ ys) (suc k) lt = let rest = least_below (y ∷ ys) k (omega (arith, lt)) in omega (arith, rest)

-- it stands at some place.
least_there : (xs : List ℕ) → 0 < length xs → (k : ℕ) × (k < length xs) × (at xs k ≡ least xs)
least_there [] some = absurd (omega (arith, some))
least_there (x ∷ []) some = (0, omega arith, refl)
least_there (x ∷ y ∷ ys) some = go (least_there (y ∷ ys) (omega arith)) (cases x (least (y ∷ ys)))
  where
    cases : (a b : ℕ) → (a ≤ b) ⊎ (b < a)
    cases a b = grind arith

    go : (k : ℕ) × (k < length (y ∷ ys)) × (at (y ∷ ys) k ≡ least (y ∷ ys)) → (x ≤ least (y ∷ ys)) ⊎ (least (y ∷ ys) < x) → (k : ℕ) × (k < length (x ∷ y ∷ ys)) × (at (x ∷ y ∷ ys) k ≡ least (x ∷ y ∷ ys))
    go d (inl le) = (0, omega arith, omega (arith, le))
    go d (inr lt) = (suc d.0, omega (arith, d.1), omega (arith, d.2, lt))

-- the first place of what stands at a place.
place_first : (xs : List ℕ) (k : ℕ) → k < length xs → (x : ℕ) → at xs k ≡ x → (row_place xs x ≤ k) × (at xs (row_place xs x) ≡ x)
place_first [] k lt x e = absurd (omega (arith, lt))
place_first (y ∷ ys) k lt x e = go (y == x) refl k lt e (λ j less is. place_first ys j less x is)
  where
    go : (b : Bool) → (y == x) ≡ b → (k : ℕ) → k < suc (length ys) → at (y ∷ ys) k ≡ x → ((j : ℕ) → j < length ys → at ys j ≡ x → (row_place ys x ≤ j) × (at ys (row_place ys x) ≡ x)) → ((if b then 0 else suc (row_place ys x)) ≤ k) × (at (y ∷ ys) (if b then 0 else suc (row_place ys x)) ≡ x)
    go true is k lt e ih = (omega arith, eqb-true y x is)
    go false is zero lt e ih = absurd (true≢false (sym (eq-eqb y x e) ∙ is))
    go false is (suc k) lt e ih = let rest = ih k (omega (arith, lt)) e in (omega (arith, rest.0), rest.1)

-- each place before it has something else.
place_before : (xs : List ℕ) (x k : ℕ) → k < row_place xs x → k < length xs → at xs k ≡ x → ⊥
place_before xs x k before lt e = let first = place_first xs k lt x e in omega (arith, before, first.0)

pub first_least : (xs : List ℕ) → 0 < length xs → IsFirstLeast xs (row_place xs (least xs))
first_least xs some =
    let d = least_there xs some in
    let first = place_first xs d.0 d.1 (least xs) d.2 in
    record {
      there = omega (arith, first.0, d.1);
      least_is = λ k lt. let low = least_below xs k lt in omega (arith, low, first.1);
      first_is = λ k before.
          let lt : k < length xs = omega (arith, before, first.0, d.1) in
          let low = least_below xs k lt in
          higher k before lt low first.1;
    }
  where
    higher : (k : ℕ) → k < row_place xs (least xs) → k < length xs → least xs ≤ at xs k → at xs (row_place xs (least xs)) ≡ least xs → at xs (row_place xs (least xs)) < at xs k
    higher k before lt low is = go (cases_order (at xs k) (least xs))
      where
        go : (at xs k ≡ least xs) ⊎ ((at xs k < least xs) ⊎ (least xs < at xs k)) → at xs (row_place xs (least xs)) < at xs k
        go (inl e) = absurd (place_before xs (least xs) k before lt e)
        go (inr (inl under)) = absurd (omega (arith, under, low))
        go (inr (inr over)) = omega (arith, is, over)

-- there is only one.
pub one_least : (xs : List ℕ) (i j : ℕ) → IsFirstLeast xs i → IsFirstLeast xs j → i ≡ j
one_least xs i j a b = go (cases_order i j)
  where
    go : (i ≡ j) ⊎ ((i < j) ⊎ (j < i)) → i ≡ j
    go (inl e) = e
    go (inr (inl lt)) = absurd (omega (arith, b.first_is i lt, a.least_is j b.there))
    go (inr (inr lt)) = absurd (omega (arith, a.first_is j lt, b.least_is i a.there))

pub best_is : (xs : List ℕ) (i : ℕ) → IsFirstLeast xs i → i + 1 ≡ best_of xs
best_is xs i a = let e = one_least xs i (row_place xs (least xs)) a (first_least xs (omega (arith, a.there))) in omega (arith, e)

-- ---- one after another

-- the first of the least of the first n, or the place 0 before any is compared
pub record IsFirstTo (xs : List ℕ) (n place : ℕ) : Type 0 where
  pub there : place < length xs
  pub least_is : (k : ℕ) → k < n → at xs place ≤ at xs k
  pub first_is : (k : ℕ) → k < place → at xs place < at xs k
  pub before : place < n

pub first_begins : (xs : List ℕ) → 0 < length xs → IsFirstTo xs 1 0
first_begins xs some = record {
  there = some;
  least_is = λ k lt. let e : 0 ≡ k = omega (arith, lt) in subst (λ j. at xs 0 ≤ at xs j) e (omega arith);
  first_is = λ k lt. absurd (omega (arith, lt));
  before = omega arith;
}

first_stays : (xs : List ℕ) (n place : ℕ) → IsFirstTo xs n place → at xs place ≤ at xs n → IsFirstTo xs (n + 1) place
first_stays xs n place f le = record { there = f.there; least_is = λ k lt. go k (cases_order k n) lt; first_is = f.first_is; before = omega (arith, f.before) }
  where
    go : (k : ℕ) → (k ≡ n) ⊎ ((k < n) ⊎ (n < k)) → k < n + 1 → at xs place ≤ at xs k
    go k (inl e) lt = subst (λ j. at xs place ≤ at xs j) (sym e) le
    go k (inr (inl low)) lt = f.least_is k low
    go k (inr (inr high)) lt = absurd (omega (arith, high, lt))

first_moves : (xs : List ℕ) (n place : ℕ) → IsFirstTo xs n place → n < length xs → at xs n < at xs place → IsFirstTo xs (n + 1) n
first_moves xs n place f there lt = record { there = there; least_is = λ k low. go k (cases_order k n) low; first_is = λ k low. let le = f.least_is k low in omega (arith, le, lt); before = omega arith }
  where
    go : (k : ℕ) → (k ≡ n) ⊎ ((k < n) ⊎ (n < k)) → k < n + 1 → at xs n ≤ at xs k
    go k (inl e) low = subst (λ j. at xs n ≤ at xs j) (sym e) (omega arith)
    go k (inr (inl under)) low = let le = f.least_is k under in omega (arith, le, lt)
    go k (inr (inr high)) low = absurd (omega (arith, high, low))

-- the same for ticks.
number_at : (ts : List Tick) (k : ℕ) (d : Tick) → k < length ts → at (numbers ts) k ≡ (get_or ts k d).0
number_at [] k d lt = absurd (omega (arith, lt))
number_at (t ∷ ts) zero d lt = refl
number_at (t ∷ ts) (suc k) d lt = number_at ts k d (omega (arith, lt))

pub tick_stays : (ts : List Tick) (d : Tick) (n place : ℕ) → n < length ts → IsFirstTo (numbers ts) n place → (get_or ts place d).0 ≤ (get_or ts n d).0 → IsFirstTo (numbers ts) (n + 1) place
tick_stays ts d n place lt f le =
    let here = number_at ts n d lt in
    let there = number_at ts place d (omega (arith, f.there, length-map ts (λ t. t.0))) in
    first_stays (numbers ts) n place f (omega (arith, here, there, le))

pub tick_moves : (ts : List Tick) (d : Tick) (n place : ℕ) → n < length ts → IsFirstTo (numbers ts) n place → (get_or ts n d).0 < (get_or ts place d).0 → IsFirstTo (numbers ts) (n + 1) n
tick_moves ts d n place lt f less =
    let here = number_at ts n d lt in
    let there = number_at ts place d (omega (arith, f.there, length-map ts (λ t. t.0))) in
    first_moves (numbers ts) n place f (omega (arith, lt, length-map ts (λ t. t.0))) (omega (arith, here, there, less))

pub first_ends : (xs : List ℕ) (n place : ℕ) → IsFirstTo xs n place → length xs ≤ n → IsFirstLeast xs place
first_ends xs n place f le = record { there = f.there; least_is = λ k lt. f.least_is k (omega (arith, lt, le)); first_is = f.first_is }
