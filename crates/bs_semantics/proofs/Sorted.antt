-- Lists in a strict order: those with the same members are one, and a set is put together in it.
use Rattle.std.proofs.Common.{◌≡◌, ◌⊎◌, inl, inr, List, [], ◌∷◌, refl, sym, ap, ap₂, subst, ◌∙◌, Ordering, Less, Equal, Greater, nat_cmp}
use Rattle.std.specs.Ordering.{ordering_reverse}
use Rattle.std.specs.Cmp.{IsTotalOrder}
use Rattle.std.specs.Cmp.Lexicographic.{slice_cmp}
use Rattle.std.proofs.lemmas.Cmp.{tied_itself, nat_list_cmp_total, on_total}
use Rattle.bs_log.specs.declared.history.Block.{Block}
use Rattle.bs_log.specs.Lists.{Mem, InOrder}
use Rattle.bs_log.specs.Rising.{Rising}
use Rattle.bs_semantics.specs.Run.{place_by, put, put_all}

-- a member of a set put together is one of both
pub put_member : {A : Type 0} (cmp : A → A → Ordering) (a x : A) (ys : List A) → Mem x (put cmp a ys) → (x ≡ a) ⊎ Mem x ys
put_member cmp a x [] (inl e) = inl e
put_member cmp a x [] (inr m) = absurd m
put_member cmp a x (y ∷ ys) m = by_order (cmp a y) m (put_member cmp a x ys)
  where
    by_rest : (x ≡ a) ⊎ Mem x ys → (x ≡ a) ⊎ Mem x (y ∷ ys)
    by_rest (inl e) = inl e
    by_rest (inr m) = inr (inr m)

    by_order : (o : Ordering) → Mem x (place_by o a y ys (put cmp a ys)) → (Mem x (put cmp a ys) → (x ≡ a) ⊎ Mem x ys) → (x ≡ a) ⊎ Mem x (y ∷ ys)
    by_order Less (inl e) f = inl e
    by_order Less (inr m) f = inr m
    by_order Equal m f = inr m
    by_order Greater (inl e) f = inr (inl e)
    by_order Greater (inr m) f = by_rest (f m)

pub put_all_member : {A : Type 0} (cmp : A → A → Ordering) (x : A) (xs ys : List A) → Mem x (put_all cmp xs ys) → Mem x xs ⊎ Mem x ys
put_all_member cmp x [] ys m = inr m
put_all_member cmp x (a ∷ xs) ys m = by_put (put_member cmp a x (put_all cmp xs ys) m) (put_all_member cmp x xs ys)
  where
    by_more : Mem x xs ⊎ Mem x ys → Mem x (a ∷ xs) ⊎ Mem x ys
    by_more (inl m) = inl (inr m)
    by_more (inr m) = inr m

    by_put : (x ≡ a) ⊎ Mem x (put_all cmp xs ys) → (Mem x (put_all cmp xs ys) → Mem x xs ⊎ Mem x ys) → Mem x (a ∷ xs) ⊎ Mem x ys
    by_put (inl e) f = inl (inl e)
    by_put (inr m) f = by_more (f m)

module _ {A : Type 0} (cmp : A → A → Ordering) (o : IsTotalOrder cmp) where
  abbrev pub Sorted : List A → Type 0
  Sorted = InOrder (λ x y. cmp x y ≡ Less)

  not_itself : {B : Type 0} (x : A) → cmp x x ≡ Less → B
  not_itself x e = let q : Equal ≡ Less = sym (tied_itself o x) ∙ e in absurd (cc)

  not_both : {B : Type 0} (x y : A) → cmp x y ≡ Less → cmp y x ≡ Less → B
  not_both x y e f = not_itself x (o.trans x y x e f)

  pub same_sorted : (xs ys : List A) → Sorted xs → Sorted ys → ((x : A) → Mem x xs → Mem x ys) → ((x : A) → Mem x ys → Mem x xs) → xs ≡ ys
  same_sorted [] [] h k f g = refl
  same_sorted [] (y ∷ ys) h k f g = absurd (g y (inl refl))
  same_sorted (x ∷ xs) [] h k f g = absurd (f x (inl refl))
  same_sorted (x ∷ xs) (y ∷ ys) h k f g = ap₂ (λ a as'. a ∷ as') head (same_sorted xs ys h.1 k.1 (λ z m. tail_f z m (f z (inr m))) (λ z m. tail_g z m (g z (inr m))))
    where
      by_heads : Mem x (y ∷ ys) → Mem y (x ∷ xs) → x ≡ y
      by_heads (inl e) n = e
      by_heads (inr m) (inl e) = sym e
      by_heads (inr m) (inr n) = not_both x y (h.0 y n) (k.0 x m)

      head : x ≡ y
      head = by_heads (f x (inl refl)) (g y (inl refl))

      tail_f : (z : A) → Mem z xs → Mem z (y ∷ ys) → Mem z ys
      tail_f z m (inl e) = not_itself x (subst (λ z. cmp x z ≡ Less) (e ∙ sym head) (h.0 z m))
      tail_f z m (inr n) = n

      tail_g : (z : A) → Mem z ys → Mem z (x ∷ xs) → Mem z xs
      tail_g z m (inl e) = not_itself y (subst (λ z. cmp y z ≡ Less) (e ∙ head) (k.0 z m))
      tail_g z m (inr n) = n

  -- two members that are alike are one
  pub one_member : (xs : List A) → Sorted xs → (x y : A) → Mem x xs → Mem y xs → cmp x y ≡ Equal → x ≡ y
  one_member [] h x y m n e = absurd m
  one_member (z ∷ xs) h x y (inl p) (inl q) e = p ∙ sym q
  one_member (z ∷ xs) h x y (inl p) (inr n) e = let l : Equal ≡ Less = sym e ∙ subst (λ a. cmp a y ≡ Less) (sym p) (h.0 y n) in absurd (cc)
  one_member (z ∷ xs) h x y (inr m) (inl q) e =
      let l = subst (λ a. cmp a x ≡ Less) (sym q) (h.0 x m) in
      let back : Equal ≡ ordering_reverse Less = sym e ∙ o.antisymm x y ∙ ap ordering_reverse l in
      absurd (cc)
  one_member (z ∷ xs) h x y (inr m) (inr n) e = one_member xs h.1 x y m n e

  -- none is alike
  abbrev pub NoneLike : A → List A → Type 0
  NoneLike x ys = (y : A) → Mem y ys → cmp x y ≡ Equal → ⊥

  put_sorted : (x : A) (ys : List A) → Sorted ys → Sorted (put cmp x ys)
  put_sorted x [] h = ((λ y m. absurd m), tt)
  put_sorted x (y ∷ ys) h = by_order (cmp x y) refl (put_sorted x ys h.1)
    where
      later : cmp x y ≡ Less → (z : A) → Mem z (y ∷ ys) → cmp x z ≡ Less
      later l z (inl e) = subst (λ z. cmp x z ≡ Less) (sym e) l
      later l z (inr m) = o.trans x y z l (h.0 z m)

      turned : cmp x y ≡ Greater → cmp y x ≡ Less
      turned g = o.antisymm y x ∙ ap ordering_reverse g

      behind : cmp x y ≡ Greater → (z : A) → (z ≡ x) ⊎ Mem z ys → cmp y z ≡ Less
      behind g z (inl e) = subst (λ z. cmp y z ≡ Less) (sym e) (turned g)
      behind g z (inr m) = h.0 z m

      by_order : (r : Ordering) → cmp x y ≡ r → Sorted (put cmp x ys) → Sorted (place_by r x y ys (put cmp x ys))
      by_order Less e k = (later e, h)
      by_order Equal e k = h
      by_order Greater e k = ((λ z m. behind e z (put_member cmp x z ys m)), k)

  pub all_sorted : (xs : List A) → Sorted (put_all cmp xs [])
  all_sorted [] = tt
  all_sorted (x ∷ xs) = put_sorted x (put_all cmp xs []) (all_sorted xs)

  kept : (x y : A) (ys : List A) → Mem y ys → Mem y (put cmp x ys)
  kept x y [] m = absurd m
  kept x y (z ∷ ys) m = by_order (cmp x z) m (kept x y ys)
    where
      by_order : (r : Ordering) → Mem y (z ∷ ys) → (Mem y ys → Mem y (put cmp x ys)) → Mem y (place_by r x z ys (put cmp x ys))
      by_order Less m f = inr m
      by_order Equal m f = m
      by_order Greater (inl e) f = inl e
      by_order Greater (inr m) f = inr (f m)

  placed : (x : A) (ys : List A) → NoneLike x ys → Mem x (put cmp x ys)
  placed x [] h = inl refl
  placed x (z ∷ ys) h = by_order (cmp x z) refl (placed x ys (λ y m. h y (inr m)))
    where
      by_order : (r : Ordering) → cmp x z ≡ r → Mem x (put cmp x ys) → Mem x (place_by r x z ys (put cmp x ys))
      by_order Less e m = inl refl
      by_order Equal e m = absurd (h z (inl refl) e)
      by_order Greater e m = inr m

  only : (x : A) (xs : List A) → Mem x xs ⊎ Mem x [] → Mem x xs
  only x xs (inl m) = m
  only x xs (inr m) = absurd m

  pub from_all : (xs : List A) (x : A) → Mem x (put_all cmp xs []) → Mem x xs
  from_all xs x m = only x xs (put_all_member cmp x xs [] m)

  -- of a list without two that are alike each is in the set
  pub into_all : (xs : List A) → InOrder (λ x y. cmp x y ≡ Equal → ⊥) xs → (x : A) → Mem x xs → Mem x (put_all cmp xs [])
  into_all [] h x m = absurd m
  into_all (y ∷ xs) h x (inl e) = subst (λ x. Mem x (put_all cmp (y ∷ xs) [])) (sym e) (placed y (put_all cmp xs []) (λ z m. h.0 z (from_all xs z m)))
  into_all (y ∷ xs) h x (inr m) = kept y x (put_all cmp xs []) (into_all xs h.1 x m)

blocks_total : IsTotalOrder (λ (x y : Block). slice_cmp nat_cmp x.path.0 y.path.0)
blocks_total = on_total (λ (b : Block). b.path.0) nat_list_cmp_total

pub one_list : (xs ys : List Block) → Rising xs → Rising ys → ((x : Block) → Mem x xs → Mem x ys) → ((x : Block) → Mem x ys → Mem x xs) → xs ≡ ys
one_list = same_sorted (λ (x y : Block). slice_cmp nat_cmp x.path.0 y.path.0) blocks_total

pub one_at : (xs : List Block) → Rising xs → (x y : Block) → Mem x xs → Mem y xs → x.path.0 ≡ y.path.0 → x ≡ y
one_at xs h x y m n e = one_member (λ (x y : Block). slice_cmp nat_cmp x.path.0 y.path.0) blocks_total xs h x y m n (ap (λ q. slice_cmp nat_cmp q y.path.0) e ∙ tied_itself nat_list_cmp_total y.path.0)
