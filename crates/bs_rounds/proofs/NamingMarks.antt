-- What is seen after marks: the first at each place, and the least key that came twice.
use Rattle.std.proofs.Common.{◌≡◌, Bool, true, false, if◌then◌else◌, List, [], ◌∷◌, ◌++◌, Option, Some, None, refl, sym, ap, ap₂, subst, ◌∙◌, append_assoc, append-nil}
use Rattle.std.specs.Option.{option_map, option_or}
use Rattle.std.specs.declared.cmp.Ordering.{Ordering}
use Rattle.std.specs.declared.cmp.Ordering.TheVariants.{Less, Equal, Greater}
use Rattle.std.specs.BTreeMap.{BTreeMap, get, is_at, Updates}
use Rattle.std.proofs.lemmas.Cmp.{tied_itself}
use Rattle.bs_semantics.specs.Verdict.{Mark as PlainMark, Twice as PlainTwice, second_of, twice_cmp, lesser, least, first_twice}
use Rattle.bs_rounds.specs.declared.answer.Twice.{Twice}
use Rattle.bs_rounds.specs.Answer.{twice_of}
use Rattle.bs_rounds.specs.declared.naming.Place.{Place}
use Rattle.bs_rounds.specs.declared.naming.Mark.{Mark}
use Rattle.bs_rounds.specs.Naming.{place_cmp, place_of, mark_of, pair, Seen, none_seen, noted, with_mark, with_marks, seen_of}
use Rattle.bs_rounds.proofs.NamingLeast.{least_assoc, least_none, absorbs, swaps}
use Rattle.bs_rounds.proofs.NamingPlaces.{place_total, place_is, place_symm, first_at, first_appended, first_is, second_is}

-- ---- a key that came twice isn't at a place without marks

abbrev twice_place : PlainTwice → Place
twice_place t = record { chare = t.chare; key = t.key }

abbrev IsApart : Place → Option PlainTwice → Type 0
IsApart q None = Unit {0}
IsApart q (Some t) = is_at (place_cmp (twice_place t)) q ≡ false

least_apart : (q : Place) (a b : Option PlainTwice) → IsApart q a → IsApart q b → IsApart q (least a b)
least_apart q None b h k = k
least_apart q (Some a) None h k = h
least_apart q (Some a) (Some b) h k = by_order (twice_cmp a b)
  where
    by_order : (o : Ordering) → is_at (place_cmp (twice_place (lesser a b o))) q ≡ false
    by_order Less = h
    by_order Equal = h
    by_order Greater = k

second_apart : (q : Place) (a : PlainMark) (as' : List PlainMark) → is_at (place_cmp (place_of a)) q ≡ false → IsApart q (second_of a as')
second_apart q a as' h = subst (IsApart q) (sym (second_is a as')) (by_first (first_at as' (place_of a)))
  where
    by_first : (o : Option PlainMark) → IsApart q (option_map (pair a) o)
    by_first None = tt
    by_first (Some b) = h

named_apart : (q : Place) (as' : List PlainMark) → first_at as' q ≡ None → IsApart q (first_twice as')
named_apart q [] e = tt
named_apart q (a ∷ as') e = by_test (is_at (place_cmp (place_of a)) q) refl e (named_apart q as')
  where
    by_test : (t : Bool) → is_at (place_cmp (place_of a)) q ≡ t → (if t then Some a else first_at as' q) ≡ None → (first_at as' q ≡ None → IsApart q (first_twice as')) → IsApart q (least (second_of a as') (first_twice as'))
    by_test true p e f = absurd (cc)
    by_test false p e f = least_apart q (second_of a as') (first_twice as') (second_apart q a as' p) (f e)

-- ---- the least key that came twice, with one mark more

or_none : {A : Type 0} (o : Option A) → option_or o None ≡ o
or_none None = refl
or_none (Some x) = refl

swaps_apart : (w : PlainTwice) (f : Option PlainTwice) → IsApart (twice_place w) f → least (Some w) f ≡ least f (Some w)
swaps_apart w None h = refl
swaps_apart w (Some f) h = swaps w f h

same_place : (a m : PlainMark) (f : Option PlainTwice) (g : Option PlainMark) → ((b : PlainMark) → g ≡ Some b → place_of b ≡ place_of a) → (g ≡ None → IsApart (place_of a) f)
    → least (option_map (pair a) (option_or g (Some m))) (least f (option_map (λ x. pair x m) g)) ≡ least (least (option_map (pair a) g) f) (Some (pair a m))
same_place a m f None h k = ap (least (Some (pair a m))) (least_none f) ∙ swaps_apart (pair a m) f (k refl)
same_place a m f (Some b) h k =
    let first : twice_cmp (pair a b) (pair b m) ≡ Equal = ap (place_cmp (place_of a)) (h b refl) ∙ tied_itself place_total (place_of a) in
    let second : twice_cmp (pair a b) (pair a m) ≡ Equal = tied_itself place_total (place_of a) in
    least_assoc (Some (pair a b)) f (Some (pair b m)) ∙ (absorbs (pair a b) (pair b m) f first ∙ sym (absorbs (pair a b) (pair a m) f second))

named_appended : (as' : List PlainMark) (m : PlainMark) → first_twice (as' ++ m ∷ []) ≡ least (first_twice as') (option_map (λ x. pair x m) (first_at as' (place_of m)))
named_appended [] m = refl
named_appended (a ∷ as') m = ap₂ least (second_is a (as' ++ m ∷ []) ∙ ap (option_map (pair a)) (first_appended as' m (place_of a))) (named_appended as' m) ∙ by_test (is_at (place_cmp (place_of a)) (place_of m)) refl
  where
    by_test : (t : Bool) → is_at (place_cmp (place_of a)) (place_of m) ≡ t
        → least (option_map (pair a) (option_or (first_at as' (place_of a)) (first_at (m ∷ []) (place_of a)))) (least (first_twice as') (option_map (λ x. pair x m) (first_at as' (place_of m))))
        ≡ least (least (second_of a as') (first_twice as')) (option_map (λ x. pair x m) (if t then Some a else first_at as' (place_of m)))
    by_test false p =
        let rest = least (first_twice as') (option_map (λ x. pair x m) (first_at as' (place_of m))) in
        ap (λ t. least (option_map (pair a) (option_or (first_at as' (place_of a)) (if t then Some m else None))) rest) (place_symm (place_of m) (place_of a) ∙ p)
        ∙ (ap (λ o. least (option_map (pair a) o) rest) (or_none (first_at as' (place_of a)))
        ∙ (least_assoc (option_map (pair a) (first_at as' (place_of a))) (first_twice as') (option_map (λ x. pair x m) (first_at as' (place_of m)))
        ∙ ap (λ o. least (least o (first_twice as')) (option_map (λ x. pair x m) (first_at as' (place_of m)))) (sym (second_is a as'))))
    by_test true p =
        let found = first_at as' (place_of a) in
        let there : first_at as' (place_of m) ≡ first_at as' (place_of a) = ap (first_at as') (sym (place_is (place_of a) (place_of m) p)) in
        ap₂ (λ t o. least (option_map (pair a) (option_or found (if t then Some m else None))) (least (first_twice as') (option_map (λ x. pair x m) o))) (place_symm (place_of m) (place_of a) ∙ p) there
        ∙ (same_place a m (first_twice as') found (first_is as' (place_of a)) (named_apart (place_of a) as')
        ∙ ap (λ o. least (least o (first_twice as')) (Some (pair a m))) (sym (second_is a as')))

-- ---- what is seen after all marks

record Holds (ms : List PlainMark) (s : Seen) : Type 0 where
  firsts : (q : Place) → s.firsts q ≡ first_at ms q
  least : s.least ≡ first_twice ms

adds_if : (t : Bool) (m : PlainMark) (o : Option PlainMark) → (t ≡ true → o ≡ None) → (if t then Some m else o) ≡ option_or o (if t then Some m else None)
adds_if true m o f = ap (λ o. option_or o (Some m)) (sym (f refl))
adds_if false m o f = sym (or_none o)

stays_if : (t : Bool) (m a : PlainMark) (o : Option PlainMark) → (t ≡ true → o ≡ Some a) → o ≡ option_or o (if t then Some m else None)
stays_if true m a o f = f refl ∙ ap (λ o. option_or o (Some m)) (sym (f refl))
stays_if false m a o f = sym (or_none o)

holds_more : (ms : List PlainMark) (s : Seen) (m : PlainMark) → Holds ms s → Holds (ms ++ m ∷ []) (with_mark s m)
holds_more ms s m h = by_first (s.firsts (place_of m)) refl
  where
    found : (o : Option PlainMark) → s.firsts (place_of m) ≡ o → (q : Place) → is_at (place_cmp (place_of m)) q ≡ true → first_at ms q ≡ o
    found o e q p = ap (first_at ms) (sym (place_is (place_of m) q p)) ∙ (sym (h.firsts (place_of m)) ∙ e)

    named : (o : Option PlainMark) → s.firsts (place_of m) ≡ o → least s.least (option_map (λ x. pair x m) o) ≡ first_twice (ms ++ m ∷ [])
    named o e = ap₂ (λ l o. least l (option_map (λ x. pair x m) o)) h.least (sym e ∙ h.firsts (place_of m)) ∙ sym (named_appended ms m)

    by_first : (o : Option PlainMark) → s.firsts (place_of m) ≡ o → Holds (ms ++ m ∷ []) (noted s m o)
    by_first None e = record {
      firsts = λ q. ap (λ o. if is_at (place_cmp (place_of m)) q then Some m else o) (h.firsts q) ∙ (adds_if (is_at (place_cmp (place_of m)) q) m (first_at ms q) (found None e q) ∙ sym (first_appended ms m q));
      least = sym (least_none s.least) ∙ named None e;
    }
    by_first (Some a) e = record {
      firsts = λ q. h.firsts q ∙ (stays_if (is_at (place_cmp (place_of m)) q) m a (first_at ms q) (found (Some a) e q) ∙ sym (first_appended ms m q));
      least = named (Some a) e;
    }

holds_all : (ns ms : List PlainMark) (s : Seen) → Holds ms s → Holds (ms ++ ns) (with_marks s ns)
holds_all [] ms s h = subst (λ l. Holds l s) (sym (append-nil ms)) h
holds_all (n ∷ ns) ms s h = subst (λ l. Holds l (with_marks (with_mark s n) ns)) (append_assoc ms (n ∷ []) ns) (holds_all ns (ms ++ n ∷ []) (with_mark s n) (holds_more ms s n h))

pub all_named : (ms : List PlainMark) → (with_marks none_seen ms).least ≡ first_twice ms
all_named ms = (holds_all ms [] none_seen (record { firsts = λ q. refl; least = refl })).least

-- ---- marks that are gone through part by part

pub with_appended : (s : Seen) (xs ys : List PlainMark) → with_marks s (xs ++ ys) ≡ with_marks (with_marks s xs) ys
with_appended s [] ys = refl
with_appended s (x ∷ xs) ys = with_appended (with_mark s x) xs ys

-- a part was gone through, and the rest is as before
pub part_done : (s t w : Seen) (xs ys zs : List PlainMark) → zs ≡ xs ++ ys → t ≡ with_marks s xs → with_marks s zs ≡ w → with_marks t ys ≡ w
part_done s t w xs ys zs e d h = ap (λ x. with_marks x ys) d ∙ (sym (with_appended s xs ys) ∙ (ap (with_marks s) (sym e) ∙ h))

map_if : (t : Bool) (m : Mark) (o : Option Mark) → option_map mark_of (if t then Some m else o) ≡ (if t then Some (mark_of m) else option_map mark_of o)
map_if true m o = refl
map_if false m o = refl

-- the first mark at a place is put into the map
pub put_first : (old new : BTreeMap Place Mark) (m : Mark) (least : Option Twice) → get place_cmp old m.place ≡ None → Updates place_cmp old new m.place (Some m)
    → seen_of (record { firsts = new; least = least }) ≡ with_mark (seen_of (record { firsts = old; least = least })) (mark_of m)
put_first old new m least e u = (λ i. record { firsts = λ q. at q i; least = option_map twice_of least }) ∙ sym (ap (λ o. noted (seen_of (record { firsts = old; least = least })) (mark_of m) (option_map mark_of o)) e)
  where
    at : (q : Place) → option_map mark_of (get place_cmp new q) ≡ (if is_at (place_cmp m.place) q then Some (mark_of m) else option_map mark_of (get place_cmp old q))
    at q = ap (option_map mark_of) (u.0 q) ∙ map_if (is_at (place_cmp m.place) q) m (get place_cmp old q)
