-- In a total order, the least of those in a list that have a property that can be decided.
use Rattle.std.proofs.Common.{◌≡◌, ◌<◌, ◌⊎◌, inl, inr, ℕ, false, List, [], ◌∷◌, Ordering, Less, Equal, Greater, refl, sym, ap, subst, ◌∙◌, nat_cmp}
use Rattle.std.specs.Ordering.{is_gt, ordering_reverse, ordering_then, MatchOrdering}
use Rattle.std.specs.Cmp.{IsTotalOrder}
use Rattle.std.proofs.lemmas.Bool.{false≢true}
use Rattle.std.proofs.lemmas.Cmp.{tied_itself, upto, ranked}
use Rattle.bs_log.specs.Lists.{Mem}

-- it holds, or it doesn't
abbrev pub Decided : Type 0 → Type 0
Decided P = P ⊎ (P → ⊥)

module _ {A : Type 0} (cmp : A → A → Ordering) (total : IsTotalOrder cmp) where
  -- no greater than another
  abbrev pub IsNoGreater : A → A → Type 0
  IsNoGreater x y = is_gt (cmp x y) ≡ false

  no_greater_itself : (x : A) → IsNoGreater x x
  no_greater_itself x = ap is_gt (tied_itself total x)

  module _ (P : A → Type 0) where
    -- one that has the property, and is no greater than each that has it
    pub record Least (xs : List A) : Type 0 where
      pub item : A
      pub is_in : Mem item xs
      pub holds : P item
      pub least : (y : A) → Mem y xs → P y → IsNoGreater item y

    abbrev pub NoneHolds : List A → Type 0
    NoneHolds xs = (y : A) → Mem y xs → P y → ⊥

    only : (x : A) (xs : List A) → P x → NoneHolds xs → Least (x ∷ xs)
    only x xs h n = record { item = x; is_in = inl refl; holds = h; least = least }
      where
        least : (y : A) → Mem y (x ∷ xs) → P y → IsNoGreater x y
        least y (inl e) k = subst (IsNoGreater x) (sym e) (no_greater_itself x)
        least y (inr m) k = absurd (n y m k)

    behind : (x : A) (xs : List A) → (P x → ⊥) → Least xs → Least (x ∷ xs)
    behind x xs n l = record { item = l.item; is_in = inr l.is_in; holds = l.holds; least = least }
      where
        least : (y : A) → Mem y (x ∷ xs) → P y → IsNoGreater l.item y
        least y (inl e) k = absurd (n (subst P e k))
        least y (inr m) k = l.least y m k

    lesser : (x : A) (xs : List A) → P x → Least xs → Least (x ∷ xs)
    lesser x xs h l = by_order (cmp x l.item) refl
      where
        front : IsNoGreater x l.item → (y : A) → Mem y (x ∷ xs) → P y → IsNoGreater x y
        front u y (inl e) k = subst (IsNoGreater x) (sym e) (no_greater_itself x)
        front u y (inr m) k = upto total x l.item y u (l.least y m k)

        back : cmp x l.item ≡ Greater → (y : A) → Mem y (x ∷ xs) → P y → IsNoGreater l.item y
        back g y (inl e) k = subst (IsNoGreater l.item) (sym e) (ap is_gt (total.antisymm l.item x ∙ ap ordering_reverse g))
        back g y (inr m) k = l.least y m k

        by_order : (o : Ordering) → cmp x l.item ≡ o → Least (x ∷ xs)
        by_order Less e = record { item = x; is_in = inl refl; holds = h; least = front (ap is_gt e) }
        by_order Equal e = record { item = x; is_in = inl refl; holds = h; least = front (ap is_gt e) }
        by_order Greater e = record { item = l.item; is_in = inr l.is_in; holds = l.holds; least = back e }

    none_more : (x : A) (xs : List A) → (P x → ⊥) → NoneHolds xs → NoneHolds (x ∷ xs)
    none_more x xs n m y (inl e) k = n (subst P e k)
    none_more x xs n m y (inr i) k = m y i k

    pub least_or_none : ((x : A) → Decided (P x)) → (xs : List A) → Least xs ⊎ NoneHolds xs
    least_or_none decide [] = inr (λ y m k. m)
    least_or_none decide (x ∷ xs) = by_both (decide x) (least_or_none decide xs)
      where
        by_both : Decided (P x) → Least xs ⊎ NoneHolds xs → Least (x ∷ xs) ⊎ NoneHolds (x ∷ xs)
        by_both (inl h) (inl l) = inl (lesser x xs h l)
        by_both (inl h) (inr n) = inl (only x xs h n)
        by_both (inr n) (inl l) = inl (behind x xs n l)
        by_both (inr n) (inr m) = inr (none_more x xs n m)

-- ---- an order by numbers first

-- by a number first: the number is less, or it is the same and the rest is no greater
abbrev pub IsNoGreaterBy : ℕ → ℕ → Ordering → Type 0
IsNoGreaterBy a b rest = (a < b) ⊎ ((a ≡ b) × (is_gt rest ≡ false))

pub number_first : (a b : ℕ) (rest : Ordering) → is_gt (ordering_then (nat_cmp a b) rest) ≡ false → IsNoGreaterBy a b rest
number_first a b rest h = by_order (nat_cmp a b) (ranked a b (nat_cmp a b) refl) h
  where
    by_order : (o : Ordering) → MatchOrdering o (a < b) (a ≡ b) (b < a) → is_gt (ordering_then o rest) ≡ false → IsNoGreaterBy a b rest
    by_order Less l k = inl l
    by_order Equal e k = inr (e, k)
    by_order Greater l k = absurd (false≢true (sym k))

pub less_or_equal : (r : Ordering) → is_gt r ≡ false → (r ≡ Less) ⊎ (r ≡ Equal)
less_or_equal Less h = inl refl
less_or_equal Equal h = inr refl
less_or_equal Greater h = absurd (false≢true (sym h))
