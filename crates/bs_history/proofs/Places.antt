-- Vectors that hold a set in order, the greatest item first.
use Rattle.std.proofs.Common.{◌≡◌, ◌≤◌, ◌<◌, ℕ, ◌+◌, ◌-◌, arith, List, [], ◌∷◌, ◌++◌, refl, sym, ap, ap₂, ◌∙◌, append_assoc, take, drop, length, get_or, reverse, take-append-drop, take_all, le_refl, Ordering, Less, Equal, Greater}
use Rattle.std.proofs.lemmas.List.{take_more, drop_more, drop_all, reverse-append}
use Rattle.std.proofs.lemmas.Grind.{reverse_onto}
use Rattle.bs_semantics.specs.Run.{put, put_all, place_by}

module _ {A : Type 0} where
  pub reverse_cons : (x : A) (xs : List A) → reverse (x ∷ xs) ≡ reverse xs ++ x ∷ []
  reverse_cons x xs = reverse_onto xs x []

  -- an item between two parts, seen from behind
  pub turned : (x : A) (xs ys : List A) → reverse (xs ++ x ∷ ys) ≡ reverse ys ++ x ∷ reverse xs
  turned x xs ys =
      reverse-append xs (x ∷ ys) ∙ (ap (λ zs. zs ++ reverse xs) (reverse_cons x ys) ∙ append_assoc (reverse ys) (x ∷ []) (reverse xs))

  module _ (cmp : A → A → Ordering) (x : A) (items : List A) where
    -- the item is greater than all that stand from here on
    abbrev pub PutBefore : ℕ → Type 0
    PutBefore k = put cmp x (reverse items) ≡ reverse (drop k items) ++ put cmp x (reverse (take k items))

    -- the item between those before the place k and those from n on
    module _ (k n : ℕ) (y : A) (t : take n items ≡ take k items ++ y ∷ []) (d : drop k items ≡ y ∷ drop n items) where
      before : reverse (take n items) ≡ y ∷ reverse (take k items)
      before = ap reverse t ∙ turned y (take k items) []

      chosen : PutBefore n → (r : Ordering) → r ≡ cmp x y → put cmp x (reverse items) ≡ reverse (drop n items) ++ place_by r x y (reverse (take k items)) (put cmp x (reverse (take k items)))
      chosen h r e =
          h ∙ (ap (λ zs. reverse (drop n items) ++ put cmp x zs) before
          ∙ ap (λ r. reverse (drop n items) ++ place_by r x y (reverse (take k items)) (put cmp x (reverse (take k items)))) (sym e))

      pub put_less : PutBefore n → Less ≡ cmp x y → put cmp x (reverse items) ≡ reverse (take n items ++ x ∷ drop n items)
      put_less h e = chosen h Less e ∙ sym (turned x (take n items) (drop n items) ∙ ap (λ zs. reverse (drop n items) ++ x ∷ zs) before)

      pub put_equal : PutBefore n → Equal ≡ cmp x y → put cmp x (reverse items) ≡ reverse items
      put_equal h e =
          chosen h Equal e
          ∙ sym (ap reverse (sym (take-append-drop k items) ∙ ap (λ zs. take k items ++ zs) d) ∙ turned y (take k items) (drop n items))

      pub put_greater : PutBefore n → Greater ≡ cmp x y → PutBefore k
      put_greater h e =
          chosen h Greater e
          ∙ (sym (append_assoc (reverse (drop n items)) (y ∷ []) (put cmp x (reverse (take k items))))
          ∙ ap (λ zs. zs ++ put cmp x (reverse (take k items))) (sym (ap reverse d ∙ reverse_cons y (drop n items))))

    pub put_last : PutBefore (length items)
    put_last = sym (ap (λ zs. reverse zs ++ put cmp x (reverse (take (length items) items))) (drop_all (length items) items (le_refl (length items))) ∙ ap (λ zs. put cmp x (reverse zs)) (take_all (length items) items (le_refl (length items))))

    pub put_first : PutBefore 0 → put cmp x (reverse items) ≡ reverse (x ∷ items)
    put_first h = h ∙ sym (reverse_cons x items)

  -- the part up to the place n, where y is the last of it
  pub take_last : (xs : List A) (n : ℕ) (y : A) → 0 < n → n ≤ length xs → y ≡ get_or xs (n - 1) y → take n xs ≡ take (n - 1) xs ++ y ∷ []
  take_last xs n y l m e =
      let one : n ≡ n - 1 + 1 = omega (arith, l) in
      let less : n - 1 < length xs = omega (arith, l, m) in
      ap (λ n. take n xs) one ∙ (take_more xs (n - 1) y less ∙ ap (λ y. take (n - 1) xs ++ y ∷ []) (sym e))

  pub drop_last : (xs : List A) (n : ℕ) (y : A) → 0 < n → n ≤ length xs → y ≡ get_or xs (n - 1) y → drop (n - 1) xs ≡ y ∷ drop n xs
  drop_last xs n y l m e =
      let one : n - 1 + 1 ≡ n = omega (arith, l) in
      let less : n - 1 < length xs = omega (arith, l, m) in
      drop_more xs (n - 1) y less ∙ ap₂ (λ y n. y ∷ drop n xs) (sym e) one

  -- a first item put last
  pub put_all_behind : (cmp : A → A → Ordering) (x : A) (xs ys : List A) → put_all cmp (reverse (x ∷ xs)) ys ≡ put_all cmp (reverse xs) (put cmp x ys)
  put_all_behind cmp x xs ys = ap (λ zs. put_all cmp zs ys) (reverse_cons x xs) ∙ put_all_append (reverse xs)
    where
      put_all_append : (zs : List A) → put_all cmp (zs ++ x ∷ []) ys ≡ put_all cmp zs (put cmp x ys)
      put_all_append [] = refl
      put_all_append (z ∷ zs) = ap (put cmp z) (put_all_append zs)
