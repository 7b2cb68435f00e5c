-- The row of least number that ends last.
use Rattle.std.proofs.Common.{◌≡◌, ◌≤◌, ◌<◌, ◌+◌, ◌⊎◌, inl, inr, ℕ, zero, suc, Option, Some, None, refl, sym, ap, ◌∙◌, arith}
use Rattle.bs_times.specs.Net.{Net, Starts, HasRow, Causal}
use Rattle.bs_times.specs.Times.{end_of, greatest_to}
use Rattle.bs_path.specs.Chain.{IsLast, span_of}
use Rattle.bs_path.specs.Ended.{EndsLast}
use Rattle.bs_path.proofs.OneLink.{SameStarts}

above : (a b : ℕ) → (a < b) ⊎ (b ≤ a)
above a b = grind arith

pub at_most_to : (f : ℕ → ℕ) (n k : ℕ) → 1 ≤ k → k ≤ n → f k ≤ greatest_to f n
at_most_to f zero k some most = absurd (omega (arith, some, most))
at_most_to f (suc n) k some most = go (λ le. at_most_to f n k some le) (above n k)
  where
    go : (k ≤ n → f k ≤ greatest_to f n) → (n < k) ⊎ (k ≤ n) → f k ≤ greatest_to f (suc n)
    go ih (inl lt) = let e : k ≡ suc n = omega (arith, lt, most) in omega (arith, ap f e)
    go ih (inr le) = omega (arith, ih le)

pub greatest_moved : (f g : ℕ → ℕ) (n : ℕ) → ((k : ℕ) → 1 ≤ k → k ≤ n → f k ≡ g k) → greatest_to f n ≡ greatest_to g n
greatest_moved f g zero h = refl
greatest_moved f g (suc n) h = omega (arith, greatest_moved f g n (λ k some most. h k some (omega (arith, most))), h (suc n) (omega arith) (omega arith))

module _ (net : Net) (s : Starts) where
  -- one row more that ends later than those before it, or not later
  pub later : (n : ℕ) (o : Option ℕ) → EndsLast net s n o → greatest_to (end_of net s) n < end_of net s (suc n) → EndsLast net s (suc n) (Some (suc n))
  later n o last h = (omega arith, omega arith, omega (arith, h), λ k some most e. least k some most e (above k (suc n)))
    where
      least : (k : ℕ) → 1 ≤ k → k ≤ suc n → end_of net s k ≡ greatest_to (end_of net s) (suc n) → (k < suc n) ⊎ (suc n ≤ k) → suc n ≤ k
      least k some most e (inl lt) = absurd (omega (arith, at_most_to (end_of net s) n k some (omega (arith, lt)), e, h))
      least k some most e (inr le) = le

  pub not_later : (n i : ℕ) → EndsLast net s n (Some i) → end_of net s (suc n) ≤ greatest_to (end_of net s) n → EndsLast net s (suc n) (Some i)
  not_later n i last h =
      let same : greatest_to (end_of net s) (suc n) ≡ greatest_to (end_of net s) n = omega (arith, h) in
      (last.0, omega (arith, last.1), last.2 ∙ sym same, λ k some most e. least k some most (e ∙ same) (above n k))
    where
      least : (k : ℕ) → 1 ≤ k → k ≤ suc n → end_of net s k ≡ greatest_to (end_of net s) n → (n < k) ⊎ (k ≤ n) → i ≤ k
      least k some most e (inl lt) = omega (arith, lt, last.1)
      least k some most e (inr le) = last.3 k some le e

  first : (m : ℕ) → m ≡ 0 → greatest_to (end_of net s) m ≡ 0
  first m e = rw e refl

  module _ (c : Causal net) where
    -- where the next one doesn't end later there is one before it
    pub kept : (n : ℕ) (o : Option ℕ) → HasRow net (suc n) → EndsLast net s n o → end_of net s (suc n) ≤ greatest_to (end_of net s) n → EndsLast net s (suc n) o
    kept n None has last h = absurd (omega (arith, first n last, h, c.duration (suc n) has))
    kept n (Some i) has last h = not_later n i last h

    -- there is one
    pub some_last : (n : ℕ) → n ≤ net.rows → (o : Option ℕ) × EndsLast net s n o
    some_last zero le = (None, refl)
    some_last (suc n) le = go (some_last n (omega (arith, le)))
      where
        next : (o : Option ℕ) → EndsLast net s n o → (greatest_to (end_of net s) n < end_of net s (suc n)) ⊎ (end_of net s (suc n) ≤ greatest_to (end_of net s) n) → (p : Option ℕ) × EndsLast net s (suc n) p
        next o last (inl h) = (Some (suc n), later n o last h)
        next o last (inr h) = (o, kept n o (omega arith, le) last h)

        go : (o : Option ℕ) × EndsLast net s n o → (p : Option ℕ) × EndsLast net s (suc n) p
        go d = next d.0 d.1 (above (greatest_to (end_of net s) n) (end_of net s (suc n)))

  pub is_last : (i : ℕ) → EndsLast net s net.rows (Some i) → IsLast net s i
  is_last i last = record { row = (last.0, last.1); ends = last.2; least = λ k has e. last.3 k has.0 has.1 e }

  pub one_last : (i j : ℕ) → IsLast net s i → IsLast net s j → i ≡ j
  one_last i j a b = omega (arith, a.least j b.row b.ends, b.least i a.row a.ends)

pub span_moved : (net : Net) (s z : Starts) → SameStarts net s z → span_of net s ≡ span_of net z
span_moved net s z same = greatest_moved (end_of net s) (end_of net z) net.rows (λ k some most. ap (λ x. x + net.duration k) (same k (some, most)))

pub last_moved : (net : Net) (s z : Starts) → SameStarts net s z → (i : ℕ) → IsLast net s i → IsLast net z i
last_moved net s z same i last = record {
  row = last.row;
  ends = ap (λ x. x + net.duration i) (sym (same i last.row)) ∙ last.ends ∙ span_moved net s z same;
  least = λ k has e. last.least k has (ap (λ x. x + net.duration k) (same k has) ∙ e ∙ sym (span_moved net s z same));
}
