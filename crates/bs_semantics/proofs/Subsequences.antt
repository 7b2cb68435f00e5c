-- Lists with gaps.
use Rattle.std.proofs.Common.{◌≡◌, ◌≤◌, Bool, List, [], ◌∷◌, ◌++◌, inl, inr, refl, ap, subst, length, le_refl, arith}
use Rattle.bs_log.specs.Lists.{Mem, Apart}
use Rattle.bs_semantics.specs.Growth.{Subsequence, none, keep, skip}

pub whole : {A : Type 0} (xs : List A) → Subsequence A xs xs
whole [] = none
whole (x ∷ xs) = keep x xs xs (whole xs)

pub empty : {A : Type 0} (xs : List A) → Subsequence A [] xs
empty [] = none
empty (x ∷ xs) = skip x [] xs (empty xs)

pub beside : {A : Type 0} (as' bs cs ds : List A) → Subsequence A as' bs → Subsequence A cs ds → Subsequence A (as' ++ cs) (bs ++ ds)
beside _ _ cs ds none k = k
beside _ _ cs ds (keep x xs ys h) k = keep x (xs ++ cs) (ys ++ ds) (beside xs ys cs ds h k)
beside _ _ cs ds (skip y xs ys h) k = skip y (xs ++ cs) (ys ++ ds) (beside xs ys cs ds h k)

-- more behind the larger list
pub longer : {A : Type 0} (xs ys zs : List A) → Subsequence A xs ys → Subsequence A xs (ys ++ zs)
longer _ _ zs none = empty zs
longer _ _ zs (keep x xs ys h) = keep x xs (ys ++ zs) (longer xs ys zs h)
longer _ _ zs (skip y xs ys h) = skip y xs (ys ++ zs) (longer xs ys zs h)

pub of_equal : {A : Type 0} (xs ys : List A) → xs ≡ ys → Subsequence A xs ys
of_equal xs ys e = subst (λ z. Subsequence _ xs z) e (whole xs)

pub member : {A : Type 0} (x : A) (xs ys : List A) → Subsequence A xs ys → Mem x xs → Mem x ys
member x _ _ none m = m
member x _ _ (keep y xs ys h) (inl e) = inl e
member x _ _ (keep y xs ys h) (inr m) = inr (member x xs ys h m)
member x _ _ (skip y xs ys h) m = inr (member x xs ys h m)

pub not_longer : {A : Type 0} (xs ys : List A) → Subsequence A xs ys → length xs ≤ length ys
not_longer _ _ none = le_refl 0
not_longer _ _ (keep x xs ys h) = let k = not_longer xs ys h in omega (arith, k)
not_longer _ _ (skip y xs ys h) = let k = not_longer xs ys h in omega (arith, k)

pub apart : {A : Type 0} (same : A → A → Bool) (xs ys : List A) → Subsequence A xs ys → Apart same ys → Apart same xs
apart same _ _ none k = tt
apart same _ _ (keep x xs ys h) k = ((λ y m. k.0 y (member y xs ys h m)), apart same xs ys h k.1)
apart same _ _ (skip y xs ys h) k = apart same xs ys h k.1

-- as long as the larger list, so all of it
pub all_of : {A : Type 0} (xs ys : List A) → Subsequence A xs ys → length xs ≡ length ys → xs ≡ ys
all_of _ _ none e = refl
all_of _ _ (keep x xs ys h) e = ap (λ zs. x ∷ zs) (all_of xs ys h (omega (arith, e)))
all_of _ _ (skip y xs ys h) e = let k = not_longer xs ys h in absurd (omega (arith, k, e))
