-- For callers of `close`: seats that stand in the order of their numbers are all seats.
use Rattle.std.proofs.Common.{◌≡◌, ◌<◌, ℕ, zero, suc, List, [], ◌∷◌, length, sym, arith, subst}
use Rattle.std.specs.Prelude.{Some, slice_get, remove}
use Rattle.bs_floor.specs.Seats.{FloorValue, SeatValue, IsSeatOf, AllSeats, number_of, seat_count}
use Rattle.bs_floor.proofs.Lookups.{Some-injective, none_some, item_is, read_at}

module _ {S J I : Type 0} where
  pub all_in_order : (f : FloorValue S) (seats : List (SeatValue S J I)) → length seats ≡ seat_count f → ((k : ℕ) (s : SeatValue S J I) → slice_get seats k ≡ Some s → IsSeatOf f s × (number_of s ≡ k)) → AllSeats f seats
  all_in_order f seats as_many each = record {
    of_floor = λ k d low. let t = item_is seats k low in subst (IsSeatOf f) (sym (read_at seats k d t.0 t.1)) (each k t.0 t.1).0;
    each = λ n low. let t = item_is seats n (omega arith) in (n, t.0, omega arith, read_at seats n t.0 t.0 t.1, (each n t.0 t.1).1);
  }

  pub all_two : (f : FloorValue S) (a b : SeatValue S J I) → seat_count f ≡ 2 → IsSeatOf f a → number_of a ≡ 0 → IsSeatOf f b → number_of b ≡ 1 → AllSeats f (a ∷ b ∷ [])
  all_two f a b two own_a is_a own_b is_b = all_in_order f (a ∷ b ∷ []) (sym two) each_of
    where
      each_of : (k : ℕ) (s : SeatValue S J I) → slice_get (a ∷ b ∷ []) k ≡ Some s → IsSeatOf f s × (number_of s ≡ k)
      each_of zero s at = subst (λ (z : SeatValue S J I). IsSeatOf f z × (number_of z ≡ 0)) (Some-injective a s at) (own_a, is_a)
      each_of (suc zero) s at = subst (λ (z : SeatValue S J I). IsSeatOf f z × (number_of z ≡ 1)) (Some-injective b s at) (own_b, is_b)
      each_of (suc (suc k)) s at = none_some s at

  pub all_four : (f : FloorValue S) (a b c d : SeatValue S J I) → seat_count f ≡ 4 → IsSeatOf f a × (number_of a ≡ 0) → IsSeatOf f b × (number_of b ≡ 1) → IsSeatOf f c × (number_of c ≡ 2) → IsSeatOf f d × (number_of d ≡ 3) → AllSeats f (a ∷ b ∷ c ∷ d ∷ [])
  all_four f a b c d four is_a is_b is_c is_d = all_in_order f (a ∷ b ∷ c ∷ d ∷ []) (sym four) each_of
    where
      each_of : (k : ℕ) (s : SeatValue S J I) → slice_get (a ∷ b ∷ c ∷ d ∷ []) k ≡ Some s → IsSeatOf f s × (number_of s ≡ k)
      each_of zero s at = subst (λ (z : SeatValue S J I). IsSeatOf f z × (number_of z ≡ 0)) (Some-injective a s at) is_a
      each_of (suc zero) s at = subst (λ (z : SeatValue S J I). IsSeatOf f z × (number_of z ≡ 1)) (Some-injective b s at) is_b
      each_of (suc (suc zero)) s at = subst (λ (z : SeatValue S J I). IsSeatOf f z × (number_of z ≡ 2)) (Some-injective c s at) is_c
      each_of (suc (suc (suc zero))) s at = subst (λ (z : SeatValue S J I). IsSeatOf f z × (number_of z ≡ 3)) (Some-injective d s at) is_d
      each_of (suc (suc (suc (suc k)))) s at = none_some s at

-- what is left of an element as a later one is removed
pub earlier_stays : {A : Type 0} (xs : List A) (n k : ℕ) (a : A) → k < n → slice_get (remove xs n) k ≡ Some a → slice_get xs k ≡ Some a
earlier_stays [] zero k a low at = absurd (omega (arith, low))
earlier_stays [] (suc n) k a low at = at
earlier_stays (x ∷ xs) zero k a low at = absurd (omega (arith, low))
earlier_stays (x ∷ xs) (suc n) zero a low at = at
earlier_stays (x ∷ xs) (suc n) (suc k) a low at = earlier_stays xs n k a (omega (arith, low)) at

-- what is left of the first element as the second one is removed
pub first_stays : {A : Type 0} (xs : List A) (a : A) → slice_get (remove xs 1) 0 ≡ Some a → slice_get xs 0 ≡ Some a
first_stays [] a at = at
first_stays (x ∷ xs) a at = at
