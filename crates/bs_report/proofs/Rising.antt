-- Rising lists of numbers, one more number put into them, and maps whose keys they are.
use Rattle.std.proofs.Common.{◌≡◌, ◌≢◌, ℕ, zero, suc, ◌+◌, ◌<◌, length, List, [], ◌∷◌, map, false, ◌||◌, ◌==◌, unwrap_or, Option, Some, cond, sym, refl, ap, ◌∙◌, arith, Less, Equal, Greater}
use Rattle.std.specs.Ordering.{match_ordering, nat_cmp, is_eq}
use Rattle.std.specs.BTreeMap.{insert_entry, is_at}
use Rattle.std.specs.Map.{lookup}
use Rattle.std.specs.List.{AllByRecursion, list_any}
use Rattle.std.specs.List.Sorted.{IsStrictlyIncreasing}
use Rattle.std.proofs.lemmas.Cmp.{ranked}
use Rattle.std.proofs.lemmas.Bool.Decides.{nat_tests}
use Rattle.bs_report.specs.Report.{with_number}

-- the order in which two numbers are put in doesn't matter
pub with_number_comm : (a b : ℕ) (ps : List ℕ) → with_number a (with_number b ps) ≡ with_number b (with_number a ps)
with_number_comm a b [] = grind (arith, nat_tests)
with_number_comm a b (p ∷ ps) = let again = with_number_comm a b ps in grind (arith, nat_tests, again)

-- each number of the list is above n
abbrev pub Above : ℕ → List ℕ → Type 0
Above n ps = AllByRecursion (λ p. n < p) ps

-- each number is above those before it
abbrev pub Rises : List ℕ → Type 0
Rises [] = Unit {0}
Rises (p ∷ ps) = Above p ps × Rises ps

pub above_lower : (n k : ℕ) (ps : List ℕ) → n < k → Above k ps → Above n ps
above_lower n k [] h a = tt
above_lower n k (p ∷ ps) h (q, a) = (omega (arith, h, q), above_lower n k ps h a)

above_more : (n k : ℕ) (ps : List ℕ) → n < k → Above n ps → Above n (with_number k ps)
above_more n k [] h a = (h, tt)
above_more n k (p ∷ ps) h (q, a) =
    let more = above_more n k ps h a in
    elim (nat_cmp k p) as (λ r. Above n (match_ordering r (k ∷ p ∷ ps) (p ∷ ps) (p ∷ with_number k ps))) [
      | Less ↦ (h, (q, a))
      | Equal ↦ (q, a)
      | Greater ↦ (q, more)
    ]

pub rises_more : (k : ℕ) (ps : List ℕ) → Rises ps → Rises (with_number k ps)
rises_more k [] s = (tt, tt)
rises_more k (p ∷ ps) (a, s) =
    let more = rises_more k ps s in
    (elim (nat_cmp k p) as (λ r. r ≡ nat_cmp k p → Rises (match_ordering r (k ∷ p ∷ ps) (p ∷ ps) (p ∷ with_number k ps))) [
      | Less ↦ λ e. let lt : k < p = ranked k p Less e in ((lt, above_lower k p ps lt a), (a, s))
      | Equal ↦ λ e. (a, s)
      | Greater ↦ λ e. (above_more p k ps (ranked k p Greater e) a, more)
    ]) refl

pub increases : (ps : List ℕ) → Rises ps → IsStrictlyIncreasing ps
increases [] r k h = absurd (omega arith)
increases (p ∷ []) r k h = absurd (omega arith)
increases (p ∷ q ∷ ps) (a, s) zero h = a.0
increases (p ∷ q ∷ ps) (a, s) (suc k) h =
    let within : k + 1 < length (q ∷ ps) = omega (arith, h) in
    let next : suc k + 1 ≡ suc (k + 1) = omega arith in
    rw next (increases (q ∷ ps) s k within)

-- two values that agree besides at a number agree above it
same_above : {V : Type 0} (f g : ℕ → V) (k : ℕ) (ps : List ℕ) → Above k ps → ((p : ℕ) → p ≢ k → g p ≡ f p)
    → map {B = ℕ × V} (λ p. (p, f p)) ps ≡ map {B = ℕ × V} (λ p. (p, g p)) ps
same_above f g k [] a same = refl
same_above f g k (p ∷ ps) (q, a) same =
    let here : g p ≡ f p = same p (omega (arith, q)) in
    let others = same_above f g k ps a same in
    cc

-- a map from a rising list of numbers, and the value of one number written into it
pub insert_into : {V : Type 0} (f g : ℕ → V) (k : ℕ) (ps : List ℕ) → Rises ps → ((p : ℕ) → p ≢ k → g p ≡ f p)
    → insert_entry nat_cmp (map {B = ℕ × V} (λ p. (p, f p)) ps) k (g k) ≡ map {B = ℕ × V} (λ p. (p, g p)) (with_number k ps)
insert_into f g k [] s same = refl
insert_into {V} f g k (p ∷ ps) (a, s) same =
    let others = insert_into f g k ps s same in
    (elim (nat_cmp k p) as (λ r. r ≡ nat_cmp k p →
    match_ordering {X = List (ℕ × V)} r ((k, g k) ∷ (p, f p) ∷ map {B = ℕ × V} (λ q. (q, f q)) ps) ((p, g k) ∷ map {B = ℕ × V} (λ q. (q, f q)) ps)
    ((p, f p) ∷ insert_entry nat_cmp (map {B = ℕ × V} (λ q. (q, f q)) ps) k (g k))
    ≡ map {B = ℕ × V} (λ q. (q, g q)) (match_ordering r (k ∷ p ∷ ps) (p ∷ ps) (p ∷ with_number k ps))) [
      | Less ↦ λ e. let lt : k < p = ranked k p Less e in
          let rest = same_above f g k (p ∷ ps) (lt, above_lower k p ps lt a) same in cc
      | Equal ↦ λ e. let eq : k ≡ p = ranked k p Equal e in
          let rest = same_above f g p ps a (λ q apart. same q (λ h. apart (h ∙ eq))) in cc
      | Greater ↦ λ e. let gt : p < k = ranked k p Greater e in
          let here : g p ≡ f p = same p (omega (arith, gt)) in cc
    ]) refl

not_first : (k p : ℕ) (ps : List ℕ) → (p ≡ k → ⊥) → list_any (λ q. q == k) ps ≡ false → list_any (λ q. q == k) (p ∷ ps) ≡ false
not_first k p ps apart none = grind (arith, nat_tests)

-- what a map from a list of numbers has at a number
pub looked_up : {V : Type 0} (f : ℕ → V) (none : V) (k : ℕ) (ps : List ℕ) → (list_any (λ p. p == k) ps ≡ false → f k ≡ none)
    → unwrap_or (lookup (is_at (nat_cmp k)) (map {B = ℕ × V} (λ p. (p, f p)) ps)) none ≡ f k
looked_up f none k [] absent = sym (absent refl)
looked_up {V} f none k (p ∷ ps) absent =
    (elim (nat_cmp k p) as (λ r. r ≡ nat_cmp k p →
    unwrap_or (cond {A = Option V} (is_eq r) (Some (f p)) (lookup (is_at (nat_cmp k)) (map {B = ℕ × V} (λ q. (q, f q)) ps))) none ≡ f k) [
      | Less ↦ λ e. let apart : k < p = ranked k p Less e in looked_up f none k ps (λ h. absent (not_first k p ps (λ eq. omega (arith, apart, eq)) h))
      | Equal ↦ λ e. ap f (sym (ranked k p Equal e))
      | Greater ↦ λ e. let apart : p < k = ranked k p Greater e in looked_up f none k ps (λ h. absent (not_first k p ps (λ eq. omega (arith, apart, eq)) h))
    ]) refl

-- which numbers a list has with one more
pub any_more : (k n : ℕ) (ps : List ℕ) → list_any (λ p. p == k) (with_number n ps) ≡ ((n == k) || list_any (λ p. p == k) ps)
any_more k n [] = refl
any_more k n (p ∷ ps) = let others = any_more k n ps in grind (arith, nat_tests, others)
