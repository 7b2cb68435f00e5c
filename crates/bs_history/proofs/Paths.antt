-- The paths and depths of causes.
use Rattle.std.proofs.Common.{◌≡◌, ◌≤◌, ℕ, max, arith, List, [], ◌∷◌, ◌++◌, refl, sym, ap, ◌∙◌, map, reverse, ap₂, drop, get_or, length, ◌<◌, ◌+◌, Ordering, Less, Equal, Greater}
use Rattle.std.proofs.lemmas.List.{drop_more, drop_all}
use Rattle.bs_tree.specs.declared.tree.Path.{Path}
use Rattle.bs_log.specs.declared.history.Origin.{Origin}
use Rattle.bs_semantics.specs.Run.{Cause as PlainCause, greatest, depth_of, place_by, put, put_all, cause_cmp, origin_cmp, union}
use Rattle.bs_history.specs.declared.causes.Cause.{Cause}
use Rattle.bs_history.specs.Causes.{cause_of}
use Rattle.bs_history.proofs.Places.{reverse_cons}

abbrev pub path_of : PlainCause → Path
path_of c = record { 0 = c.path }

module _ {A : Type 0} (f : A → ℕ) where
  greatest_append : (xs ys : List A) → greatest f (xs ++ ys) ≡ max (greatest f xs) (greatest f ys)
  greatest_append [] ys = omega arith
  greatest_append (x ∷ xs) ys = let e = greatest_append xs ys in omega (arith, e)

  pub greatest_reverse : (xs : List A) → greatest f (reverse xs) ≡ greatest f xs
  greatest_reverse [] = refl
  greatest_reverse (x ∷ xs) =
      let e = greatest_reverse xs in
      let a = greatest_append (reverse xs) (x ∷ []) in
      ap (greatest f) (reverse_cons x xs) ∙ omega (arith, e, a)

  -- the greatest so far and of the rest
  pub greatest_on : (n : ℕ) (x : A) (xs : List A) → max (max n (f x)) (greatest f xs) ≡ max n (greatest f (x ∷ xs))
  greatest_on n x xs = omega arith

pub greatest_map : {A B : Type 0} (f : B → ℕ) (g : A → B) (xs : List A) → greatest f (map g xs) ≡ greatest (λ x. f (g x)) xs
greatest_map f g [] = refl
greatest_map f g (x ∷ xs) = ap (max (f (g x))) (greatest_map f g xs)

module _ {A B : Type 0} (cmp : B → B → Ordering) (f : A → B) where
  placed_map : (r : Ordering) (x y : A) (ys more : List A) (zs : List B) → map f more ≡ zs → map f (place_by r x y ys more) ≡ place_by r (f x) (f y) (map f ys) zs
  placed_map Less x y ys more zs e = refl
  placed_map Equal x y ys more zs e = refl
  placed_map Greater x y ys more zs e = ap (λ zs. f y ∷ zs) e

  put_map : (x : A) (ys : List A) → map f (put (λ a b. cmp (f a) (f b)) x ys) ≡ put cmp (f x) (map f ys)
  put_map x [] = refl
  put_map x (y ∷ ys) = placed_map (cmp (f x) (f y)) x y ys (put (λ a b. cmp (f a) (f b)) x ys) (put cmp (f x) (map f ys)) (put_map x ys)

  put_all_map : (xs ys : List A) → map f (put_all (λ a b. cmp (f a) (f b)) xs ys) ≡ put_all cmp (map f xs) (map f ys)
  put_all_map [] ys = refl
  put_all_map (x ∷ xs) ys = put_map x (put_all (λ a b. cmp (f a) (f b)) xs ys) ∙ ap (put cmp (f x)) (put_all_map xs ys)

-- what both sets came to, the greatest of each first
pub united : (xs ys zs : List Cause) (os ps qs : List Origin) → reverse zs ≡ put_all (λ a b. cause_cmp (cause_of a) (cause_of b)) (reverse xs) (reverse ys) → reverse qs ≡ put_all origin_cmp (reverse os) (reverse ps) →
    (record { after = map cause_of (reverse zs); mail = reverse qs }) ≡ (union (record { after = map cause_of (reverse xs); mail = reverse os }) (record { after = map cause_of (reverse ys); mail = reverse ps }))
united xs ys zs os ps qs e h = λ i. record { after = (ap (map cause_of) e ∙ put_all_map cause_cmp cause_of (reverse xs) (reverse ys)) i; mail = h i }

-- the greatest depth of causes
pub depth_inside : (xs : List Cause) (os : List Origin) → depth_of (record { after = map cause_of (reverse xs); mail = reverse os }) ≡ max (greatest (λ c. c.depth) xs) (greatest (λ o. o.depth) os)
depth_inside xs os =
    ap₂ max (greatest_map (λ c. c.depth) cause_of (reverse xs) ∙ greatest_reverse (λ c. c.depth) xs) (greatest_reverse (λ o. o.depth) os)

module _ {A : Type 0} (f : A → ℕ) (xs : List A) (i : ℕ) where
  pub greatest_step : (x : A) → i < length xs → x ≡ get_or xs i x → (n : ℕ) → max (max n (f x)) (greatest f (drop (i + 1) xs)) ≡ max n (greatest f (drop i xs))
  greatest_step x l e n =
      greatest_on f n x (drop (i + 1) xs) ∙ ap (λ ys. max n (greatest f ys)) (sym (drop_more xs i x l ∙ ap (λ y. y ∷ drop (i + 1) xs) (sym e)))

  pub greatest_done : length xs ≤ i → (n : ℕ) → n ≡ max n (greatest f (drop i xs))
  greatest_done l n = let e : max n 0 ≡ n = omega arith in sym (ap (λ ys. max n (greatest f ys)) (drop_all i xs l) ∙ e)
