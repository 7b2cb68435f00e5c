-- The least key that is asked for twice.
use Rattle.std.proofs.Common.{◌≡◌, ◌⊎◌, ◌≤◌, ◌<◌, inl, inr, ℕ, ◌+◌, Bool, true, false, cond, if◌then◌else◌, List, [], ◌∷◌, Option, Some, None, refl, sym, ap, subst, ◌∙◌, is_some, length, take, drop, get_or, filter, count_by, arith}
use Rattle.std.proofs.lemmas.List.{drop_more}
use Rattle.std.proofs.lemmas.List.Sums.{count_by_more_yes, count_by_more_no, length-filter}
use Rattle.std.proofs.lemmas.Cmp.{tied_itself, upto}
use Rattle.std.specs.Ordering.{is_eq, is_lt, is_gt, ordering_reverse}
use Rattle.std.specs.declared.cmp.Ordering.{Ordering}
use Rattle.std.specs.declared.cmp.Ordering.TheVariants.{Less, Equal, Greater}
use Rattle.std.specs.BTreeMap.{BTreeMap, get_by, Updates}
use Rattle.bs_log.specs.declared.history.Key.{Key}
use Rattle.bs_log.specs.declared.history.Asked.{Asked}
use Rattle.bs_log.specs.Messages.{key_cmp, same_key, one_asked}
use Rattle.bs_log.specs.Lists.{Mem, Apart}
use Rattle.bs_match.proofs.Keys.{key_cmp_total, is_same, same_key_is, same_key_refl, same_key_symm}
use Rattle.bs_chare.specs.Asked.{askers, times, IsLeast, IsLeastTwice, lesser}

-- ---- keys that are put into a set one by one

-- whether a set of keys has one
abbrev pub has : BTreeMap Key (Unit {0}) → Key → Bool
has keys k = is_some (get_by (key_cmp k) keys)

-- the set has the keys that were met
abbrev pub IsListed : (Key → Bool) → (Key → ℕ) → Type 0
IsListed listed met = (k : Key) → (listed k ≡ true → 1 ≤ met k) × (listed k ≡ false → met k ≡ 0)

-- one key was met once more
abbrev pub OneMore : Key → (Key → ℕ) → (Key → ℕ) → Type 0
OneMore x met new = (j : Key) → (same_key x j ≡ true → new j ≡ met j + 1) × (same_key x j ≡ false → new j ≡ met j)

turned : (a b : Key) → is_lt (key_cmp a b) ≡ is_gt (key_cmp b a)
turned a b = ap is_lt (key_cmp_total.antisymm a b) ∙ by_order (key_cmp b a)
  where
    by_order : (o : Ordering) → is_lt (ordering_reverse o) ≡ is_gt o
    by_order Less = refl
    by_order Equal = refl
    by_order Greater = refl

not_below_itself : (k : Key) → is_lt (key_cmp k k) ≡ false
not_below_itself k = ap is_lt (tied_itself key_cmp_total k)

-- what isn't below one that isn't below another isn't below that
not_below : (j k x : Key) → is_lt (key_cmp j k) ≡ false → is_lt (key_cmp k x) ≡ false → is_lt (key_cmp j x) ≡ false
not_below j k x p q = turned j x ∙ upto key_cmp_total x k j (sym (turned k x) ∙ q) (sym (turned j k) ∙ p)

not_both : (a b : Key) → is_lt (key_cmp a b) ≡ true → is_lt (key_cmp b a) ≡ false
not_both a b p = turned b a ∙ by_order (key_cmp a b) p
  where
    by_order : (o : Ordering) → is_lt o ≡ true → is_gt o ≡ false
    by_order Less e = refl
    by_order Equal e = refl
    by_order Greater e = absurd (cc)

module _ (x : Key) (met new : Key → ℕ) (more : OneMore x met new) where
  not_less : (j : Key) → met j ≤ new j
  not_less j = by_test (same_key x j) refl
    where
      by_test : (t : Bool) → same_key x j ≡ t → met j ≤ new j
      by_test true e = let q = (more j).0 e in omega (arith, q)
      by_test false e = let q = (more j).1 e in omega (arith, q)

  -- a key that wasn't met before
  pub first_met : met x ≡ 0 → (least : Option Key) → IsLeastTwice met least → IsLeastTwice new least
  first_met z None h = λ j. by_test j (same_key x j) refl
    where
      by_test : (j : Key) (t : Bool) → same_key x j ≡ t → new j ≤ 1
      by_test j true e = let q = (more j).0 e in let k = ap met (same_key_is x j e) in omega (arith, q, k, z)
      by_test j false e = let q = (more j).1 e in let k = h j in omega (arith, q, k)
  first_met z (Some k) h = (let l = not_less k in let t = h.0 in omega (arith, l, t), λ j two. by_test j (same_key x j) refl two)
    where
      by_test : (j : Key) (t : Bool) → same_key x j ≡ t → 2 ≤ new j → is_lt (key_cmp j k) ≡ false
      by_test j true e two = let q = (more j).0 e in let k = ap met (same_key_is x j e) in absurd (omega (arith, q, k, z, two))
      by_test j false e two = let q = (more j).1 e in h.1 j (omega (arith, q, two))

  here : 1 ≤ met x → 2 ≤ new x
  here one = let q = (more x).0 (same_key_refl x) in omega (arith, q, one)

  -- a key that was met
  pub met_again : 1 ≤ met x → (least : Option Key) → IsLeastTwice met least → IsLeastTwice new (Some (lesser least x))
  met_again one None h = (here one, λ j two. by_test j (same_key x j) refl two)
    where
      by_test : (j : Key) (t : Bool) → same_key x j ≡ t → 2 ≤ new j → is_lt (key_cmp j x) ≡ false
      by_test j true e two = ap (λ k. is_lt (key_cmp k x)) (sym (same_key_is x j e)) ∙ not_below_itself x
      by_test j false e two = let q = (more j).1 e in let k = h j in absurd (omega (arith, q, k, two))
  met_again one (Some k) h = by_order (is_lt (key_cmp k x)) refl
    where
      stays : is_lt (key_cmp k x) ≡ true → (j : Key) (t : Bool) → same_key x j ≡ t → 2 ≤ new j → is_lt (key_cmp j k) ≡ false
      stays p j true e two = ap (λ j. is_lt (key_cmp j k)) (sym (same_key_is x j e)) ∙ not_both k x p
      stays p j false e two = let q = (more j).1 e in h.1 j (omega (arith, q, two))

      falls : is_lt (key_cmp k x) ≡ false → (j : Key) (t : Bool) → same_key x j ≡ t → 2 ≤ new j → is_lt (key_cmp j x) ≡ false
      falls p j true e two = ap (λ j. is_lt (key_cmp j x)) (sym (same_key_is x j e)) ∙ not_below_itself x
      falls p j false e two = let q = (more j).1 e in not_below j k x (h.1 j (omega (arith, q, two))) p

      by_order : (t : Bool) → is_lt (key_cmp k x) ≡ t → IsLeastTwice new (Some (if t then k else x))
      by_order true p = (let l = not_less k in let t = h.0 in omega (arith, l, t), λ j two. stays p j (same_key x j) refl two)
      by_order false p = (here one, λ j two. falls p j (same_key x j) refl two)

some_if : (t : Bool) (o : Option (Unit {0})) → t ≡ true → is_some (cond t (Some tt) o) ≡ true
some_if true o e = refl
some_if false o e = absurd (cc)

other_if : (t : Bool) (o : Option (Unit {0})) → t ≡ false → is_some (cond t (Some tt) o) ≡ is_some o
other_if true o e = absurd (cc)
other_if false o e = refl

-- the set with one key more
pub set_more : (old new : BTreeMap Key (Unit {0})) (x : Key) (met more : Key → ℕ) → Updates key_cmp old new x (Some tt) → OneMore x met more → IsListed (has old) met → IsListed (has new) more
set_more old new x met more u m h k = by_test (same_key x k) refl
  where
    by_test : (t : Bool) → same_key x k ≡ t → (has new k ≡ true → 1 ≤ more k) × (has new k ≡ false → more k ≡ 0)
    by_test true e =
        let q = (m k).0 e in
        let has_it : has new k ≡ true = ap is_some (u.0 k) ∙ some_if _ _ (is_same x k ∙ e) in
        (λ g. omega (arith, q), λ g. absurd (cc))
    by_test false e =
        let q = (m k).1 e in
        let as_before : has new k ≡ has old k = ap is_some (u.0 k) ∙ other_if _ _ (is_same x k ∙ e) in
        (λ g. subst (λ n. 1 ≤ n) (sym q) ((h k).0 (sym as_before ∙ g)), λ g. q ∙ (h k).1 (sym as_before ∙ g))

-- the keys of one item more
pub one_more : (xs : List Asked) (i : ℕ) (d : Asked) → i < length xs → OneMore (get_or xs i d).key (times (take i xs)) (times (take (i + 1) xs))
one_more xs i d l j = (λ e. counted (i + 1) ∙ (count_by_more_yes asks xs i d l e ∙ ap (λ n. n + 1) (sym (counted i))), λ e. counted (i + 1) ∙ (count_by_more_no asks xs i d l e ∙ sym (counted i)))
  where
    asks : Asked → Bool
    asks a = same_key a.key j

    counted : (k : ℕ) → length (filter asks (take k xs)) ≡ count_by asks (take k xs)
    counted k = length-filter asks (take k xs)

-- ---- keys that are apart

none_asks : (k : Key) (xs : List Asked) → times xs k ≤ 0 → (y : Asked) → Mem y xs → same_key y.key k ≡ false
none_asks k [] z y i = absurd i
none_asks k (x ∷ xs) z y i = by_test (same_key x.key k) refl z i (none_asks k xs)
  where
    by_test : (t : Bool) → same_key x.key k ≡ t → length (cond t (x ∷ askers k xs) (askers k xs)) ≤ 0 → Mem y (x ∷ xs) → (times xs k ≤ 0 → (y : Asked) → Mem y xs → same_key y.key k ≡ false) → same_key y.key k ≡ false
    by_test true e z i f = absurd (omega (arith, z))
    by_test false e z (inl q) f = ap (λ a. same_key a.key k) q ∙ e
    by_test false e z (inr i) f = f z y i

no_more : (t : Bool) (x : Asked) (xs : List Asked) → t ≡ true → length (cond t (x ∷ xs) xs) ≤ 1 → length xs ≤ 0
no_more true x xs e l = omega (arith, l)
no_more false x xs e l = absurd (cc)

fewer : (t : Bool) (x : Asked) (xs : List Asked) → length (cond t (x ∷ xs) xs) ≤ 1 → length xs ≤ 1
fewer true x xs l = omega (arith, l)
fewer false x xs l = l

pub all_apart : (xs : List Asked) → ((j : Key) → times xs j ≤ 1) → Apart one_asked xs
all_apart [] h = tt
all_apart (x ∷ xs) h =
    ((λ y i. same_key_symm x.key y.key ∙ none_asks x.key xs (no_more (same_key x.key x.key) x (askers x.key xs) (same_key_refl x.key) (h x.key)) y i), all_apart xs (λ j. fewer (same_key x.key j) x (askers j xs) (h j)))

-- ---- the first that asks for a key

pub first_is : (k : Key) (x : Asked) (xs : List Asked) → same_key x.key k ≡ true → askers k (x ∷ xs) ≡ x ∷ askers k xs
first_is k x xs e = by_test (same_key x.key k) e
  where
    by_test : (t : Bool) → t ≡ true → cond t (x ∷ askers k xs) (askers k xs) ≡ x ∷ askers k xs
    by_test true e = refl
    by_test false e = absurd (cc)

pub first_is_not : (k : Key) (x : Asked) (xs : List Asked) → same_key x.key k ≡ false → askers k (x ∷ xs) ≡ askers k xs
first_is_not k x xs e = by_test (same_key x.key k) e
  where
    by_test : (t : Bool) → t ≡ false → cond t (x ∷ askers k xs) (askers k xs) ≡ askers k xs
    by_test false e = refl
    by_test true e = absurd (cc)
