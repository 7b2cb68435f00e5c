-- The best of blocks, one after the other.
use Rattle.std.proofs.Common.{◌≡◌, ◌≤◌, ◌<◌, ◌+◌, ◌⊎◌, inl, inr, ℕ, Bool, true, false, if◌then◌else◌, nat_le, List, Option, Some, None, length, slice_get, refl, sym, ap, subst, ◌∙◌, arith}
use Rattle.std.proofs.lemmas.Bool.{cases_lt, leb-true, leb-false}
use Rattle.std.proofs.lemmas.Option.{slice_get_within}
use Rattle.bs_log.specs.declared.history.Block.{Block}
use Rattle.bs_model.specs.declared.candidates.Best.{Best}
use Rattle.bs_model.specs.Next.{better_of, IsBest}

-- the best of the first k blocks
pub record BestBelowAt (f : Block → Option ℕ) (xs : List Block) (k : ℕ) (b : Best) : Type 0 where
  pub block : Block
  pub is : slice_get xs b.at ≡ Some block
  pub ready : f block ≡ Some b.ready
  pub least : (i : ℕ) (y : Block) (tick : ℕ) → i < k → slice_get xs i ≡ Some y → f y ≡ Some tick → (b.ready < tick) ⊎ ((b.ready ≡ tick) × (b.at ≤ i))
  pub below : b.at < k

abbrev pub BestBelow : (Block → Option ℕ) → List Block → ℕ → Option Best → Type 0
BestBelow f xs k None = (i : ℕ) (y : Block) → i < k → slice_get xs i ≡ Some y → f y ≡ None
BestBelow f xs k (Some b) = BestBelowAt f xs k b

pub best_first : (f : Block → Option ℕ) (xs : List Block) → BestBelow f xs 0 None
best_first f xs i y l e = absurd (omega (arith, l))

at_or_below : (i k : ℕ) → i < k + 1 → (i < k) ⊎ (i ≡ k)
at_or_below i k l = by_case (cases_lt i k)
  where
    by_case : (i < k) ⊎ (k ≤ i) → (i < k) ⊎ (i ≡ k)
    by_case (inl h) = inl h
    by_case (inr h) = inr (omega (arith, h, l))

-- a tick that is at most another one, and a place at most another one
split : (a t x y : ℕ) → a ≤ t → x ≤ y → (a < t) ⊎ ((a ≡ t) × (x ≤ y))
split a t x y l h = by_case (cases_lt a t)
  where
    by_case : (a < t) ⊎ (t ≤ a) → (a < t) ⊎ ((a ≡ t) × (x ≤ y))
    by_case (inl k) = inl k
    by_case (inr k) = inr (omega (arith, l, k), h)

before : (r a t : ℕ) (X : Type 0) → r < a → (a < t) ⊎ ((a ≡ t) × X) → r < t
before r a t X l (inl h) = omega (arith, l, h)
before r a t X l (inr h) = let e = h.0 in omega (arith, l, e)

module _ (f : Block → Option ℕ) (xs : List Block) (k : ℕ) (x : Block) (here : slice_get xs k ≡ Some x) where
  -- the block at the place k
  only : (i : ℕ) (y : Block) → i ≡ k → slice_get xs i ≡ Some y → y ≡ x
  only i y e s = let t : slice_get xs k ≡ Some y = subst (λ i. slice_get xs i ≡ Some y) e s in cc

  none_more : f x ≡ None → BestBelow f xs k None → BestBelow f xs (k + 1) None
  none_more n h i y l e = by_place (at_or_below i k l)
    where
      by_place : (i < k) ⊎ (i ≡ k) → f y ≡ None
      by_place (inl m) = h i y m e
      by_place (inr m) = ap f (only i y m e) ∙ n

  kept_none : (b : Best) → f x ≡ None → BestBelowAt f xs k b → BestBelowAt f xs (k + 1) b
  kept_none b n h = record {
    block = h.block;
    is = h.is;
    ready = h.ready;
    least = λ i y tick l e t. by_place i y tick e t (at_or_below i k l);
    below = let l = h.below in omega (arith, l);
  }
    where
      by_place : (i : ℕ) (y : Block) (tick : ℕ) → slice_get xs i ≡ Some y → f y ≡ Some tick → (i < k) ⊎ (i ≡ k) → (b.ready < tick) ⊎ ((b.ready ≡ tick) × (b.at ≤ i))
      by_place i y tick e t (inl m) = h.least i y tick m e t
      by_place i y tick e t (inr m) = let s : f x ≡ Some tick = ap f (sym (only i y m e)) ∙ t in absurd (cc)

  kept_some : (b : Best) (ready : ℕ) → f x ≡ Some ready → b.ready ≤ ready → BestBelowAt f xs k b → BestBelowAt f xs (k + 1) b
  kept_some b ready r le h = record {
    block = h.block;
    is = h.is;
    ready = h.ready;
    least = λ i y tick l e t. by_place i y tick e t (at_or_below i k l);
    below = let l = h.below in omega (arith, l);
  }
    where
      by_place : (i : ℕ) (y : Block) (tick : ℕ) → slice_get xs i ≡ Some y → f y ≡ Some tick → (i < k) ⊎ (i ≡ k) → (b.ready < tick) ⊎ ((b.ready ≡ tick) × (b.at ≤ i))
      by_place i y tick e t (inl m) = h.least i y tick m e t
      by_place i y tick e t (inr m) =
          let s : f x ≡ Some tick = ap f (sym (only i y m e)) ∙ t in
          let same : ready ≡ tick = cc in
          let l = h.below in
          split b.ready tick b.at i (omega (arith, same, le)) (omega (arith, l, m))

  taken_none : (ready : ℕ) → f x ≡ Some ready → BestBelow f xs k None → BestBelowAt f xs (k + 1) (record { at = k; ready = ready })
  taken_none ready r h = record {
    block = x;
    is = here;
    ready = r;
    least = λ i y tick l e t. by_place i y tick e t (at_or_below i k l);
    below = omega arith;
  }
    where
      by_place : (i : ℕ) (y : Block) (tick : ℕ) → slice_get xs i ≡ Some y → f y ≡ Some tick → (i < k) ⊎ (i ≡ k) → (ready < tick) ⊎ ((ready ≡ tick) × (k ≤ i))
      by_place i y tick e t (inl m) = let n = h i y m e in absurd (cc)
      by_place i y tick e t (inr m) =
          let s : f x ≡ Some tick = ap f (sym (only i y m e)) ∙ t in
          let same : ready ≡ tick = cc in
          inr (same, omega (arith, m))

  taken_some : (b : Best) (ready : ℕ) → f x ≡ Some ready → ready < b.ready → BestBelowAt f xs k b → BestBelowAt f xs (k + 1) (record { at = k; ready = ready })
  taken_some b ready r lt h = record {
    block = x;
    is = here;
    ready = r;
    least = λ i y tick l e t. by_place i y tick e t (at_or_below i k l);
    below = omega arith;
  }
    where
      by_place : (i : ℕ) (y : Block) (tick : ℕ) → slice_get xs i ≡ Some y → f y ≡ Some tick → (i < k) ⊎ (i ≡ k) → (ready < tick) ⊎ ((ready ≡ tick) × (k ≤ i))
      by_place i y tick e t (inl m) = inl (before ready b.ready tick (b.at ≤ i) lt (h.least i y tick m e t))
      by_place i y tick e t (inr m) =
          let s : f x ≡ Some tick = ap f (sym (only i y m e)) ∙ t in
          let same : ready ≡ tick = cc in
          inr (same, omega (arith, m))

  by_test : (b : Best) (ready : ℕ) (t : Bool) → nat_le b.ready ready ≡ t → f x ≡ Some ready → BestBelowAt f xs k b → BestBelow f xs (k + 1) (if t then Some b else Some (record { at = k; ready = ready }))
  by_test b ready true e r h = kept_some b ready r (leb-true _ _ e) h
  by_test b ready false e r h = taken_some b ready r (leb-false _ _ e) h

  pub best_more : (best : Option Best) (o : Option ℕ) → f x ≡ o → BestBelow f xs k best → BestBelow f xs (k + 1) (better_of best k o)
  best_more None None e h = none_more e h
  best_more (Some b) None e h = kept_none b e h
  best_more None (Some ready) e h = taken_none ready e h
  best_more (Some b) (Some ready) e h = by_test b ready (nat_le b.ready ready) refl e h

pub best_whole : (f : Block → Option ℕ) (xs : List Block) (k : ℕ) (best : Option Best) → length xs ≤ k → BestBelow f xs k best → IsBest f xs best
best_whole f xs k None l h = λ i y e. let w = slice_get_within xs i y e in h i y (omega (arith, w, l)) e
best_whole f xs k (Some b) l h = record {
  block = h.block;
  is = h.is;
  ready = h.ready;
  least = λ i y tick e t. let w = slice_get_within xs i y e in h.least i y tick (omega (arith, w, l)) e t;
}
