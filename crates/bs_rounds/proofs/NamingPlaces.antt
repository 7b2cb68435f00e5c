-- The first mark at each place.
use Rattle.std.proofs.Common.{◌≡◌, ◌==◌, Bool, true, false, ◌&&◌, if◌then◌else◌, List, [], ◌∷◌, ◌++◌, Option, Some, None, refl, sym, ap, ap₂, ◌∙◌, eqb-true}
use Rattle.std.specs.Option.{option_map, option_or}
use Rattle.std.specs.Ordering.{nat_cmp}
use Rattle.std.specs.Cmp.{IsTotalOrder, nat_cmp_total, tied_then, unsigned_ties}
use Rattle.std.specs.BTreeMap.{is_at}
use Rattle.std.proofs.lemmas.Bool.{and_parts}
use Rattle.std.proofs.lemmas.Cmp.{then_total, on_total, eq_by_cmp_equiv}
use Rattle.bs_log.specs.Messages.{same_key, key_cmp}
use Rattle.bs_semantics.specs.Verdict.{Mark, alike, second_of}
use Rattle.bs_semantics.proofs.Options.{some_same}
use Rattle.bs_match.proofs.Keys.{key_cmp_total, is_same, same_key_is}
use Rattle.bs_rounds.specs.declared.naming.Place.{Place}
use Rattle.bs_rounds.specs.Naming.{place_cmp, place_of, pair}

pub place_total : IsTotalOrder place_cmp
place_total = then_total (on_total (λ p. p.chare) nat_cmp_total) (on_total (λ p. p.key) key_cmp_total)

is_place : (p q : Place) → is_at (place_cmp p) q ≡ ((p.chare == q.chare) && same_key p.key q.key)
is_place p q = sym (tied_then (nat_cmp p.chare q.chare) (key_cmp p.key q.key)) ∙ ap₂ (λ s t. s && t) (sym (unsigned_ties p.chare q.chare)) (is_same p.key q.key)

pub place_is : (p q : Place) → is_at (place_cmp p) q ≡ true → p ≡ q
place_is p q e = let two = and_parts (p.chare == q.chare) (same_key p.key q.key) (sym (is_place p q) ∙ e) in both (eqb-true _ _ two.0) (same_key_is p.key q.key two.1)
  where
    both : p.chare ≡ q.chare → p.key ≡ q.key → p ≡ q
    both c k = λ i. record { chare = c i; key = k i }

pub place_symm : (p q : Place) → is_at (place_cmp p) q ≡ is_at (place_cmp q) p
place_symm p q = (eq_by_cmp_equiv place_total).symm p q

pub is_alike : (a b : Mark) → alike a b ≡ is_at (place_cmp (place_of a)) (place_of b)
is_alike a b = sym (is_place (place_of a) (place_of b))

-- the first mark at a place
abbrev pub first_at : List Mark → Place → Option Mark
first_at [] q = None
first_at (a ∷ as') q = if is_at (place_cmp (place_of a)) q then Some a else first_at as' q

appended_if : (t : Bool) (a : Mark) (o p q : Option Mark) → p ≡ option_or o q → (if t then Some a else p) ≡ option_or (if t then Some a else o) q
appended_if true a o p q e = refl
appended_if false a o p q e = e

-- the first at a place with one mark more
pub first_appended : (as' : List Mark) (m : Mark) (q : Place) → first_at (as' ++ m ∷ []) q ≡ option_or (first_at as' q) (first_at (m ∷ []) q)
first_appended [] m q = refl
first_appended (a ∷ as') m q = appended_if (is_at (place_cmp (place_of a)) q) a (first_at as' q) _ _ (first_appended as' m q)

pub first_is : (as' : List Mark) (q : Place) (b : Mark) → first_at as' q ≡ Some b → place_of b ≡ q
first_is [] q b e = absurd (cc)
first_is (a ∷ as') q b e = by_test (is_at (place_cmp (place_of a)) q) refl e (first_is as' q b)
  where
    by_test : (t : Bool) → is_at (place_cmp (place_of a)) q ≡ t → (if t then Some a else first_at as' q) ≡ Some b → (first_at as' q ≡ Some b → place_of b ≡ q) → place_of b ≡ q
    by_test true p e f = ap place_of (some_same (sym e)) ∙ place_is (place_of a) q p
    by_test false p e f = f e

-- the next one like a mark is the first at its place
pub second_is : (a : Mark) (bs : List Mark) → second_of a bs ≡ option_map (pair a) (first_at bs (place_of a))
second_is a [] = refl
second_is a (b ∷ bs) = ap₂ (λ t o. if t then Some (pair a b) else o) (is_alike a b ∙ place_symm (place_of a) (place_of b)) (second_is a bs) ∙ by_test (is_at (place_cmp (place_of b)) (place_of a))
  where
    by_test : (t : Bool) → (if t then Some (pair a b) else option_map (pair a) (first_at bs (place_of a))) ≡ option_map (pair a) (if t then Some b else first_at bs (place_of a))
    by_test true = refl
    by_test false = refl
